-- Whether two entries, two rows or two values are equal, part by part.
use Rattle.std.specs.Prelude.{ℕ, ◌==◌, ◌&&◌, ℤ, int_le, Bool, true, false, not, List}
pub use Rattle.std.specs.Cmp.Lexicographic.{pointwise as same_list}
pub use Rattle.std.specs.Option.{option_eq as same_option}
use Rattle.mega_base.specs.declared.names.OpId.{OpId}
use Rattle.mega_base.specs.declared.names.GroupId.{GroupId}
use Rattle.mega_base.specs.declared.values.Value.{Value}
use Rattle.mega_base.specs.declared.values.Value.TheVariants.{Int32, Int64, Bool as Truth, Str, Raw}
use Rattle.mega_base.specs.declared.values.Cell.{Cell}
use Rattle.mega_base.specs.declared.values.Row.{Row}
use Rattle.mega_entry.specs.declared.content.Write.{Write}
use Rattle.mega_entry.specs.declared.content.Name.{Name}
use Rattle.mega_entry.specs.declared.content.Send.{Send}
use Rattle.mega_entry.specs.declared.content.Enter.{Enter}
use Rattle.mega_entry.specs.declared.content.Cut.{Cut}
use Rattle.mega_entry.specs.declared.content.Content.{Content}

abbrev pub same_number : ℕ → ℕ → Bool
same_number a b = a == b

abbrev pub same_bytes : List ℕ → List ℕ → Bool
same_bytes = same_list same_number

abbrev pub same_op : OpId → OpId → Bool
same_op a b = a.node.0 == b.node.0 && a.start == b.start && a.number == b.number

abbrev pub same_group : GroupId → GroupId → Bool
same_group a b = same_bytes a.key b.key

abbrev pub same_int : ℤ → ℤ → Bool
same_int a b = int_le a b && int_le b a

abbrev pub same_truth : Bool → Bool → Bool
same_truth true b = b
same_truth false b = not b

abbrev pub same_value : Value → Value → Bool
same_value (Int32 a) (Int32 b) = same_int a b
same_value (Int64 a) (Int64 b) = same_int a b
same_value (Truth a) (Truth b) = same_truth a b
same_value (Str a) (Str b) = same_bytes a b
same_value (Raw a) (Raw b) = same_bytes a b
same_value _ _ = false

abbrev pub same_values : List Value → List Value → Bool
same_values = same_list same_value

abbrev pub same_cell : Cell → Cell → Bool
same_cell a b = a.property == b.property && same_values a.values b.values

abbrev pub same_row : Row → Row → Bool
same_row a b = same_list same_cell a.cells b.cells

abbrev pub same_write : Write → Write → Bool
same_write a b = same_bytes a.key b.key && same_option same_row a.row b.row

abbrev pub same_name : Name → Name → Bool
same_name a b = same_group a.group b.group && a.position.0 == b.position.0 && a.place == b.place

abbrev pub same_send : Send → Send → Bool
same_send a b = same_group a.to b.to && same_bytes a.queue b.queue && same_bytes a.payload b.payload

abbrev pub same_enter : Enter → Enter → Bool
same_enter a b = same_name a.name b.name && same_bytes a.queue b.queue && same_bytes a.payload b.payload

abbrev pub same_cut : Cut → Cut → Bool
same_cut a b = a.index == b.index && a.writes == b.writes && a.sends == b.sends

abbrev pub same_entry : Content → Content → Bool
same_entry a b =
    same_option same_op a.id b.id && a.leader.0 == b.leader.0 && same_list same_write a.writes b.writes && same_list same_send a.sends b.sends
    && same_list same_enter a.enters b.enters && same_list same_name a.handles b.handles && same_list same_cut a.cuts b.cuts
