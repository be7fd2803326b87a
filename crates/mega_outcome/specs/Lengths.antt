-- The lengths of texts, by the lengths of their parts.
use Rattle.std.specs.Prelude.{ℕ, List, length}
use Rattle.std.specs.List.{flat_map}
use Rattle.mega_base.specs.Values.{value_text, cell_text}
use Rattle.mega_base.specs.declared.values.Value.{Value}
use Rattle.mega_base.specs.declared.values.Cell.{Cell}
use Rattle.mega_index.specs.of_entry.declared.content.Write.{Write}
use Rattle.mega_index.specs.of_entry.declared.content.Send.{Send}
use Rattle.mega_index.specs.of_entry.declared.content.Cut.{Cut}
use Rattle.mega_index.specs.of_entry.Entries.{write_text, send_text, cuts_text}

abbrev pub values_length : List Value → ℕ
values_length values = length (flat_map value_text values)

abbrev pub cells_length : List Cell → ℕ
cells_length cells = length (flat_map cell_text cells)

abbrev pub writes_length : List Write → ℕ
writes_length writes = length (flat_map write_text writes)

abbrev pub sends_length : List Send → ℕ
sends_length sends = length (flat_map send_text sends)

abbrev pub cuts_length : List Cut → ℕ
cuts_length cuts = length (cuts_text cuts)
