-- What is wrong with the line of a change: an object with a name and a list of parts.
use Rattle.std.specs.Prelude.{ℕ, ◌&&◌, ◌||◌, Bool, nat_le, List, length, codes}
use Rattle.std.specs.List.{list_all}
use Rattle.serde_json.specs.Data.{Data}
use Rattle.serde_json.specs.Find.{get}
use Rattle.mega_schedule.specs.declared.verdict.Verdict.{Verdict}
use Rattle.mega_schedule.specs.Verdicts.{◌⊓◌}
use Rattle.mega_schedule.specs.Fields.{at_most, required, in_object, word_check, each, group_check, floats_check}
use Rattle.mega_schedule.specs.Parts.{check_check, write_check}

-- 1 to 64 letters and digits
abbrev pub is_letter : ℕ → Bool
is_letter c = ((nat_le 48 c && nat_le c 57) || (nat_le 65 c && nat_le c 90)) || (nat_le 97 c && nat_le c 122)

abbrev pub is_name : List ℕ → Bool
is_name text = (nat_le 1 (length text) && nat_le (length text) 64) && list_all is_letter text

abbrev pub name_check : Data → Verdict
name_check d = word_check is_name d

-- a group, checks and writes, as a transaction's line has them
abbrev pub part_fields : Data → Verdict
part_fields d =
    at_most 3 d ⊓ required group_check (get (codes "group") d) ⊓ required (each check_check) (get (codes "checks") d)
    ⊓ required (each write_check) (get (codes "writes") d)

abbrev pub part_check : Data → Verdict
part_check d = in_object part_fields d

abbrev pub line_check : Data → Verdict
line_check d = at_most 2 d ⊓ required name_check (get (codes "gid") d) ⊓ required (each part_check) (get (codes "parts") d) ⊓ floats_check d
