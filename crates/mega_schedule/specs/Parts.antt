-- What is wrong with the checks, reads, writes and sends of a transaction.
use Rattle.std.specs.Prelude.{ℕ, if◌then◌else◌, List, codes, is_some}
use Rattle.serde_json.specs.Data.{Data, Members, no_members, member}
use Rattle.serde_json.specs.Find.{get, as_array, as_object}
use Rattle.mega_schedule.specs.declared.verdict.Verdict.{Verdict}
use Rattle.mega_schedule.specs.declared.verdict.Verdict.TheVariants.{Missing, Fine}
use Rattle.mega_schedule.specs.Verdicts.{◌⊓◌}
use Rattle.mega_schedule.specs.Fields.{at_most, required, in_object, text_check, whole_check, value_check, values_check, each, hex_check, group_check, of_kind}

-- a table's name under this word, and a key
abbrev pub row_check : List ℕ → Data → Verdict
row_check word d = at_most 2 d ⊓ required text_check (get word d) ⊓ required values_check (get (codes "key") d)

abbrev pub read_check : Data → Verdict
read_check d = in_object (row_check (codes "row")) d

abbrev pub is_check : Data → Verdict
is_check d =
    at_most 4 d ⊓ required text_check (get (codes "is") d) ⊓ required values_check (get (codes "key") d)
    ⊓ required text_check (get (codes "property") d) ⊓ required values_check (get (codes "values") d)

-- told by the first word that it has; without any it lacks a field
abbrev pub check_fields : Data → Verdict
check_fields d =
    if is_some (get (codes "there") d) then row_check (codes "there") d
    else (if is_some (get (codes "gone") d) then row_check (codes "gone") d
    else (if is_some (get (codes "is") d) then is_check d else Missing))

abbrev pub check_check : Data → Verdict
check_check d = in_object check_fields d

-- one value, or a list of them
abbrev pub cell_check : Data → Verdict
cell_check d = if is_some (as_array d) then values_check d else value_check d

abbrev pub worst_cell : Verdict → Members → Verdict
worst_cell found no_members = found
worst_cell found (member k d ms) = worst_cell (found ⊓ cell_check d) ms

abbrev pub cells_check : Data → Verdict
cells_check d = of_kind (worst_cell Fine) (as_object d)

abbrev pub put_check : Data → Verdict
put_check d = at_most 2 d ⊓ required text_check (get (codes "put") d) ⊓ required cells_check (get (codes "row") d)

abbrev pub add_check : Data → Verdict
add_check d =
    at_most 4 d ⊓ required text_check (get (codes "add") d) ⊓ required values_check (get (codes "key") d)
    ⊓ required text_check (get (codes "property") d) ⊓ required whole_check (get (codes "by") d)

abbrev pub write_fields : Data → Verdict
write_fields d =
    if is_some (get (codes "put") d) then put_check d
    else (if is_some (get (codes "delete") d) then row_check (codes "delete") d
    else (if is_some (get (codes "add") d) then add_check d else Missing))

abbrev pub write_check : Data → Verdict
write_check d = in_object write_fields d

abbrev pub send_fields : Data → Verdict
send_fields d =
    at_most 3 d ⊓ required group_check (get (codes "to") d) ⊓ required text_check (get (codes "queue") d)
    ⊓ required hex_check (get (codes "payload") d)

abbrev pub send_check : Data → Verdict
send_check d = in_object send_fields d

-- the four lists of a transaction
abbrev pub items_check : Data → Verdict
items_check d =
    required (each check_check) (get (codes "checks") d) ⊓ required (each read_check) (get (codes "reads") d)
    ⊓ required (each write_check) (get (codes "writes") d) ⊓ required (each send_check) (get (codes "sends") d)

abbrev pub transaction_fields : Data → Verdict
transaction_fields d = at_most 4 d ⊓ items_check d

abbrev pub transaction_check : Data → Verdict
transaction_check d = in_object transaction_fields d
