-- Plain answers: those that are read back from their words.
use Rattle.std.specs.Prelude.{◌≡◌, Option, Some, None, IsUtf8}
use Rattle.mega_base.specs.declared.names.OpId.{OpId}
use Rattle.mega_base.specs.declared.values.NodeKind.{NodeKind}
use Rattle.mega_base.specs.declared.values.NodeKind.TheVariants as nodes
use Rattle.mega_schema.specs.declared.schema.Schema.{Schema}
use Rattle.mega_outcome.specs.declared.answer.Answer.{Answer}
use Rattle.mega_outcome.specs.declared.answer.Answer.TheVariants.{Committed, Conflict, Turned, Read, Found, Refreshed, LogFull, Busy, NotHere, NothingToDo, NoHandler, Batched, AllTurned}
use Rattle.mega_transcript.specs.PlainNames.{IsPosition, IsOp}
use Rattle.mega_transcript.specs.PlainTurns.{IsPlainTurn}
use Rattle.mega_transcript.specs.PlainRows.{ArePlainRows, ArePlainFinds, ArePlainMarks, ArePlainFindMarks, ArePlainResults}

abbrev pub IsPlainOther : Option OpId → Type 0
IsPlainOther None = Unit {0}
IsPlainOther (Some op) = IsOp op

-- a full node is always there
abbrev pub IsElsewhere : NodeKind → Type 0
IsElsewhere nodes.Full = ⊥
IsElsewhere _ = Unit {0}

abbrev pub IsPlainAnswer : Schema → Answer → Type 0
IsPlainAnswer schema (Committed position replies) = IsPosition position × ArePlainRows schema replies
IsPlainAnswer schema (Conflict position other) = IsPosition position × IsPlainOther other
IsPlainAnswer schema (Turned turn) = IsPlainTurn turn
IsPlainAnswer schema (Read position rows) = IsPosition position × ArePlainRows schema rows
IsPlainAnswer schema (Found marks rows) = ArePlainFindMarks marks × ArePlainFinds schema rows
IsPlainAnswer schema (Refreshed marks) = ArePlainMarks marks
IsPlainAnswer schema (LogFull position) = IsPosition position
IsPlainAnswer schema (Busy count) = count ≡ 64
IsPlainAnswer schema (NotHere kind) = IsElsewhere kind
IsPlainAnswer schema (NothingToDo marks) = ArePlainMarks marks
IsPlainAnswer schema (NoHandler queue) = IsUtf8 queue
IsPlainAnswer schema (Batched position results) = IsPosition position × ArePlainResults schema results
IsPlainAnswer schema (AllTurned results) = ArePlainResults schema results
IsPlainAnswer schema _ = Unit {0}
