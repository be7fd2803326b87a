-- Plain items: those that are read back from their lines.
use Rattle.hex.specs.Hex.{IsBytes}
use Rattle.mega_entry.specs.Entries.{entry_text, IsEntry}
use Rattle.mega_entry.specs.declared.content.Content.{Content}
use Rattle.mega_wire.specs.Messages.{message_text, IsMessage}
use Rattle.mega_wire.specs.declared.message.Message.{Message}
use Rattle.mega_schema.specs.declared.schema.Schema.{Schema}
use Rattle.mega_transcript.specs.declared.item.Item.{Item}
use Rattle.mega_transcript.specs.PlainNames.{IsU8, IsU32, IsU64, IsNode, IsPosition, IsEpoch, IsOp, IsGroup}
use Rattle.mega_transcript.specs.Requests.{IsRequest}
use Rattle.mega_transcript.specs.PlainAnswers.{IsPlainAnswer}
use Rattle.mega_transcript.specs.declared.item.Item.TheVariants.{Start, Unsent, Tick, Begin, Taken, Dropped, Sent, Grant, Lapse, Counts, Forgets, Serving, Lost, Valid, Invalid, Decide, Apply, Answer, Crash}

-- a message of the format, whose text is bytes
abbrev pub IsWhole : Message → Type 0
IsWhole message = IsMessage message × IsBytes (message_text message)

-- an entry of the format, whose text is bytes
abbrev pub IsWritten : Content → Type 0
IsWritten entry = IsEntry entry × IsBytes (entry_text entry)

-- items whose values their fields hold, whose begins have the compact text of an object, and whose answers fit the schema
abbrev pub IsPlain : Schema → Item → Type 0
IsPlain schema (Start node start) = IsNode node × IsU32 start
IsPlain schema (Unsent node message) = IsNode node × IsWhole message
IsPlain schema (Tick node now) = IsNode node × IsU64 now
IsPlain schema (Begin op text) = IsOp op × IsRequest text
IsPlain schema (Taken number) = IsU64 number
IsPlain schema (Dropped number) = IsU64 number
IsPlain schema (Sent number message) = IsU64 number × IsWhole message
IsPlain schema (Grant cell node epoch) = IsU8 cell × (IsNode node × IsEpoch epoch)
IsPlain schema (Lapse cell node epoch) = IsU8 cell × (IsNode node × IsEpoch epoch)
IsPlain schema (Counts node cell epoch) = IsNode node × (IsU8 cell × IsEpoch epoch)
IsPlain schema (Forgets node cell epoch) = IsNode node × (IsU8 cell × IsEpoch epoch)
IsPlain schema (Serving node epoch) = IsNode node × IsEpoch epoch
IsPlain schema (Lost node epoch) = IsNode node × IsEpoch epoch
IsPlain schema (Valid node group position) = IsNode node × (IsGroup group × IsPosition position)
IsPlain schema (Invalid node group position) = IsNode node × (IsGroup group × IsPosition position)
IsPlain schema (Decide node group position entry) = (IsNode node × (IsGroup group × IsPosition position)) × IsWritten entry
IsPlain schema (Apply node group position) = IsNode node × (IsGroup group × IsPosition position)
IsPlain schema (Answer op answer) = IsOp op × IsPlainAnswer schema answer
IsPlain schema (Crash node) = IsNode node
IsPlain schema _ = Unit {0}
