-- What the types of a program hold: numbers of their sizes, bytes, and values.
use Rattle.std.specs.Prelude.{List, Option, Some, None, Result, Ok, Err, IsUtf8}
use Rattle.std.specs.List.{AllByRecursion}
use Rattle.hex.specs.Hex.{IsBytes}
use Rattle.mega_base.specs.declared.values.Cell.{Cell}
use Rattle.mega_base.specs.declared.values.Row.{Row}
use Rattle.mega_entry.specs.Entries.{entry_text}
use Rattle.mega_outcome.specs.of_index.declared.found.Found.{Found}
use Rattle.mega_outcome.specs.declared.answer.Answer.{Answer}
use Rattle.mega_outcome.specs.declared.answer.Answer.TheVariants as answers
use Rattle.mega_outcome.specs.declared.answer.Shown.{Shown}
use Rattle.mega_outcome.specs.declared.answer.Turn.{Turn}
use Rattle.mega_outcome.specs.declared.answer.Turn.TheVariants.{OtherGroup, BadRow, CheckFailed, NoRow, Overflow, TooLarge}
use Rattle.mega_wire.specs.Messages.{message_text}
use Rattle.mega_transcript.specs.declared.item.Item.{Item}
use Rattle.mega_transcript.specs.declared.item.Item.TheVariants.{Start, Unsent, Tick, Begin, Taken, Dropped, Sent, Grant, Lapse, Counts, Forgets, Serving, Lost, Valid, Invalid, Decide, Apply, Answer as AnswerItem, Crash, Cut, Unsafe}
use Rattle.mega_transcript.specs.PlainAnswers.{IsPlainOther}
use Rattle.mega_transcript.specs.PlainNames.{IsU8, IsU32, IsU64, IsNode, IsPosition, IsEpoch, IsOp, IsGroup}
use Rattle.mega_transcript.specs.PlainRows.{AreHeldMarks, IsHeld}

-- ---- answers

abbrev pub HoldsCell : Cell → Type 0
HoldsCell cell = IsU8 cell.property × AllByRecursion IsHeld cell.values

abbrev pub HoldsRow : Row → Type 0
HoldsRow row = AllByRecursion HoldsCell row.cells

abbrev pub HoldsShown : Option Shown → Type 0
HoldsShown None = Unit {0}
HoldsShown (Some shown) = IsU8 shown.table × HoldsRow shown.row

abbrev pub HoldsRows : List (Option Shown) → Type 0
HoldsRows rows = AllByRecursion HoldsShown rows

abbrev pub HoldsFound : Found → Type 0
HoldsFound found = IsU8 found.table × (AllByRecursion IsHeld found.key × HoldsRow found.stored)

abbrev pub HoldsTurn : Turn → Type 0
HoldsTurn (OtherGroup item) = IsU32 item
HoldsTurn (BadRow item) = IsU32 item
HoldsTurn (CheckFailed item) = IsU32 item
HoldsTurn (NoRow item) = IsU32 item
HoldsTurn (Overflow item) = IsU32 item
HoldsTurn (TooLarge bytes) = IsU64 bytes
HoldsTurn _ = Unit {0}

abbrev pub HoldsResult : Result (List (Option Shown)) Turn → Type 0
HoldsResult (Ok replies) = HoldsRows replies
HoldsResult (Err turn) = HoldsTurn turn

abbrev pub HoldsAnswer : Answer → Type 0
HoldsAnswer (answers.Committed position replies) = IsPosition position × HoldsRows replies
HoldsAnswer (answers.Conflict position other) = IsPosition position × IsPlainOther other
HoldsAnswer (answers.Turned turn) = HoldsTurn turn
HoldsAnswer answers.Unknown = Unit {0}
HoldsAnswer answers.TimedOut = Unit {0}
HoldsAnswer (answers.Read position rows) = IsPosition position × HoldsRows rows
HoldsAnswer (answers.Found marks rows) = AreHeldMarks marks × AllByRecursion HoldsFound rows
HoldsAnswer (answers.Refreshed marks) = AreHeldMarks marks
HoldsAnswer (answers.LogFull position) = IsPosition position
HoldsAnswer (answers.Busy count) = IsU64 count
HoldsAnswer answers.Worn = Unit {0}
HoldsAnswer (answers.NotHere kind) = Unit {0}
HoldsAnswer (answers.NothingToDo marks) = AreHeldMarks marks
HoldsAnswer (answers.NoHandler queue) = IsUtf8 queue
HoldsAnswer (answers.Batched position results) = IsPosition position × AllByRecursion HoldsResult results
HoldsAnswer (answers.AllTurned results) = AllByRecursion HoldsResult results

-- ---- items

-- an item of a program's tape: definitions have numbers for bytes and for counts of any size
abbrev pub HoldsItem : Item → Type 0
HoldsItem (Start node start) = IsNode node × IsU32 start
HoldsItem (Unsent node message) = IsNode node × IsBytes (message_text message)
HoldsItem (Tick node now) = IsNode node × IsU64 now
HoldsItem (Begin op text) = IsOp op
HoldsItem (Taken number) = IsU64 number
HoldsItem (Dropped number) = IsU64 number
HoldsItem (Sent number message) = IsU64 number × IsBytes (message_text message)
HoldsItem (Grant cell node epoch) = IsU8 cell × (IsNode node × IsEpoch epoch)
HoldsItem (Lapse cell node epoch) = IsU8 cell × (IsNode node × IsEpoch epoch)
HoldsItem (Counts node cell epoch) = IsNode node × (IsU8 cell × IsEpoch epoch)
HoldsItem (Forgets node cell epoch) = IsNode node × (IsU8 cell × IsEpoch epoch)
HoldsItem (Serving node epoch) = IsNode node × IsEpoch epoch
HoldsItem (Lost node epoch) = IsNode node × IsEpoch epoch
HoldsItem (Valid node group position) = IsNode node × (IsGroup group × IsPosition position)
HoldsItem (Invalid node group position) = IsNode node × (IsGroup group × IsPosition position)
HoldsItem (Decide node group position entry) = (IsNode node × (IsGroup group × IsPosition position)) × IsBytes (entry_text entry)
HoldsItem (Apply node group position) = IsNode node × (IsGroup group × IsPosition position)
HoldsItem (AnswerItem op answer) = IsOp op × HoldsAnswer answer
HoldsItem (Crash node) = IsNode node
HoldsItem Cut = Unit {0}
HoldsItem Unsafe = Unit {0}
