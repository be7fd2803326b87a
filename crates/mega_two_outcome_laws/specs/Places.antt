-- Where the rows of plans, of locks and of ends stand: their tables by name, their keys by the bytes of the group.
use Rattle.std.specs.Prelude.{ℕ, List, [], ◌∷◌, ◌++◌, codes, drop, Option, Some, None}
use Rattle.mega_base.specs.declared.values.Value.TheVariants.{Str}
use Rattle.mega_schema.specs.declared.schema.Table.{Table}
use Rattle.mega_schema.specs.declared.schema.Schema.{Schema}
use Rattle.mega_schema.specs.Shaping.{shape_of, space_of}
use Rattle.mega_keys.specs.Spelling.{spell, group_bytes}
use Rattle.mega_index.specs.Fits.{numbered}
use Rattle.mega_schedule.specs.Values.{table_number}
use Rattle.mega_two_driver.specs.Tables.{root_named, root_number}
use Rattle.mega_two_driver.specs.Texts.{lock_table, end_table}

-- the numbers of the tables
abbrev pub plans : Schema → ℕ
plans s = table_number s (codes "TwoPlan")

abbrev pub root_of : Schema → List ℕ → List ℕ
root_of s group = root_named (numbered s.tables (root_number group))

abbrev pub locks : Schema → List ℕ → ℕ
locks s group = table_number s (lock_table (root_of s group))

abbrev pub ends : Schema → List ℕ → ℕ
ends s group = table_number s (end_table (root_of s group))

-- the key of a row of this table in this group: the bytes of the group behind the first, the table's number, and the key values behind those
-- of the group
abbrev pub space_in : ℕ → Option Table → ℕ
space_in n None = n
space_in n (Some t) = space_of n t

abbrev pub place : Schema → ℕ → List ℕ → List ℕ → List ℕ
place s n group rest = space_in n (numbered s.tables n) ∷ (drop 1 group ++ n ∷ rest)

-- the group of a plan
abbrev pub group_in : Schema → ℕ → Option Table → List ℕ → List ℕ
group_in s n None name = []
group_in s n (Some t) name = group_bytes (shape_of s n t) (Str name ∷ [])

abbrev pub plan_group : Schema → List ℕ → List ℕ
plan_group s name = group_in s (plans s) (numbered s.tables (plans s)) name

-- the row of a plan, of a group's lock, and of how a change ended in a group
abbrev pub plan_place : Schema → List ℕ → List ℕ
plan_place s name = place s (plans s) (plan_group s name) []

abbrev pub lock_place : Schema → List ℕ → List ℕ
lock_place s group = place s (locks s group) group []

abbrev pub end_place : Schema → List ℕ → List ℕ → List ℕ
end_place s group name = place s (ends s group) group (spell (Str name))
