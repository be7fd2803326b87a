-- What the types of an entry hold, beyond what the format asks of one: its keys, texts and rows are of bytes and values.
use Rattle.std.specs.Prelude.{Option, Some, None}
use Rattle.std.specs.List.{AllByRecursion}
use Rattle.hex.specs.Hex.{IsBytes}
use Rattle.mega_base.specs.declared.values.Row.{Row}
use Rattle.mega_entry.specs.declared.content.Content.{Content}
use Rattle.mega_entry.specs.declared.content.Enter.{Enter}
use Rattle.mega_entry.specs.declared.content.Name.{Name}
use Rattle.mega_entry.specs.declared.content.Send.{Send}
use Rattle.mega_entry.specs.declared.content.Write.{Write}
use Rattle.mega_transcript.specs.PlainNames.{IsGroup}
use Rattle.mega_field_ranges.specs.Held.{HoldsRow}

-- no row is a deletion
abbrev pub HoldsWritten : Option Row → Type 0
HoldsWritten None = Unit {0}
HoldsWritten (Some row) = HoldsRow row

abbrev pub HoldsWrite : Write → Type 0
HoldsWrite write = IsBytes write.key × HoldsWritten write.row

abbrev pub HoldsName : Name → Type 0
HoldsName name = IsGroup name.group

abbrev pub HoldsSend : Send → Type 0
HoldsSend send = IsGroup send.to × (IsBytes send.queue × IsBytes send.payload)

abbrev pub HoldsEnter : Enter → Type 0
HoldsEnter enter = HoldsName enter.name × (IsBytes enter.queue × IsBytes enter.payload)

pub record HoldsContent (e : Content) : Type 0 where
  pub writes : AllByRecursion HoldsWrite e.writes
  pub sends : AllByRecursion HoldsSend e.sends
  pub enters : AllByRecursion HoldsEnter e.enters
  pub handles : AllByRecursion HoldsName e.handles
