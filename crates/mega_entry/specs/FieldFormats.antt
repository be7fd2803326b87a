-- Formats of the fields of items and messages, each with a value that fits.
use Rattle.std.proofs.Common.{ℕ, List, [], ◌++◌, refl, arith}
use Rattle.mega_base.specs.Codec.{number_text, nested_text, IsNested, OpensNested}
use Rattle.mega_base.specs.Names.{node_at, node_text, IsNode, position_text, IsPositionIn, epoch_at, epoch_text, IsEpoch, group_at, group_text, IsGroup}
use Rattle.mega_base.specs.NameLaws.{node_codec, position_codec, epoch_codec, group_codec}
use Rattle.mega_base.specs.Whole.{nested_codec}
use Rattle.mega_entry.specs.declared.content.Content.{Content}
use Rattle.mega_entry.specs.Entries.{entry_at, entry_text, IsEntry, entry_field_at, log_position_at}
use Rattle.mega_entry.specs.EntryLaws.{entry_codec, some_entry}
use Rattle.mega_entry.specs.Formats.{Format, Open}

pub group_format : Format group_at group_text IsGroup
group_format = record { codec = group_codec; some = record { key = [] }; fits = (omega arith, omega arith) }

pub position_format : Format log_position_at position_text (IsPositionIn 1 1000000)
position_format = record { codec = position_codec 1 1000000 (omega arith) (omega arith); some = record { 0 = 1 }; fits = (omega arith, omega arith) }

pub node_format : Format node_at node_text IsNode
node_format = record { codec = node_codec; some = record { 0 = 1 }; fits = (omega arith, omega arith) }

pub epoch_format : Format epoch_at epoch_text IsEpoch
epoch_format = record { codec = epoch_codec; some = record { start = 0; count = 0 }; fits = ((omega arith, omega arith), (omega arith, omega arith)) }

-- the text of an entry, with this length before it
abbrev pub shown_entry : ℕ → Content → List ℕ
shown_entry n e = number_text 4 n ++ entry_text e

-- an entry with the length of its text before it
pub entry_open : Open entry_field_at (nested_text entry_text) (OpensNested 65536 entry_text IsEntry) (IsNested 65536 entry_text IsEntry)
entry_open = record {
  codec = nested_codec 65536 entry_at entry_text IsEntry (omega arith) entry_codec some_entry.0 some_entry.1;
  some = shown_entry 0 some_entry.0;
  shown = (0, some_entry.0, omega arith, some_entry.1, refl);
}
