-- The keys that a group's entries write under, and that items of the group name: no key is both one group's and named by an item of another.
use Rattle.std.proofs.Common.{◌≡◌, ℕ, Bool, true, false, List, ◌∷◌, ◌++◌, drop, sym, ap, ◌∙◌, Option, Some, None, Ok}
use Rattle.mega_base.specs.declared.values.Value.{Value}
use Rattle.mega_base.specs.declared.values.Row.{Row}
use Rattle.mega_schema.specs.declared.schema.Table.{Table}
use Rattle.mega_schema.specs.declared.schema.Schema.{Schema}
use Rattle.mega_schema.specs.Shaping.{shape_of}
use Rattle.mega_keys.specs.Spelling.{spell_all, scattered, scatter_of, root_part, rest_part, group_bytes}
use Rattle.mega_index.specs.Fits.{numbered, group_of, key_of}
use Rattle.mega_index.specs.Entries.{local_entries}
use Rattle.mega_outcome.specs.Places.{key_in}
use Rattle.mega_run_laws.specs.of_tape_laws.Indexed.{IsDeclared}
use Rattle.mega_index.proofs.KeyLists.{under}
use Rattle.mega_run_laws.proofs.of_tape_laws.Spelled.{Alike, SameKinds, same_kinds, values_split, alike_head}
use Rattle.mega_run_laws.proofs.of_tape_laws.RowKeys.{IsKeyOf, group_spelt, key_spelt, of_front}
use Rattle.mega_run_laws.proofs.of_tape_laws.Replacing.{key_in_at, key_in_table_of}
use Rattle.mega_run_laws.proofs.of_tape_laws.RootKeys.{one_table, no_entry}
use Rattle.mega_row_laws.proofs.Reading.{one_numbered, read_one_group, read_one_table}

-- a key of a group: key values of the group spell it, it is read as a row key of the group, or an index entry of a row stands under it
pub data KeyOf (s : Schema) (group key : List ℕ) : Type 0 where
  a_spelled : (n : ℕ) (t : Table) (values : List Value) → numbered s.tables n ≡ Some t → key_of s n t values ≡ Ok key → group_of s n t values ≡ Ok group → KeyOf s group key
  a_read : (n : ℕ) (t : Table) → numbered s.tables n ≡ Some t → IsKeyOf s n t group key → KeyOf s group key
  an_entry : (n : ℕ) (t : Table) (row : Option Row) → numbered s.tables n ≡ Some t → (under (local_entries s n t row) key ≡ None → ⊥) → KeyOf s group key

-- ---- key values that spell one key

heads_alike : (b : Bool) (vs ws : List Value) (xs ys : List ℕ) → SameKinds vs ws → (scatter_of b vs ++ spell_all vs) ++ xs ≡ (scatter_of b ws ++ spell_all ws) ++ ys → Alike vs ws
unfolding scattered
heads_alike false vs ws xs ys same h = (values_split vs ws xs ys same h).0
heads_alike true vs ws xs ys same h = (values_split vs ws xs ys same (ap (drop 2) h)).0

-- are of one group
spelled_one_group : (s : Schema) (n : ℕ) (t : Table) (vs ws : List Value) (key : List ℕ) → key_of s n t vs ≡ Ok key → key_of s n t ws ≡ Ok key
    → group_bytes (shape_of s n t) (root_part (shape_of s n t) vs) ≡ group_bytes (shape_of s n t) (root_part (shape_of s n t) ws)
spelled_one_group s n t vs ws key own other =
    let shape = shape_of s n t in
    let p = key_spelt shape vs key own in
    let q = key_spelt shape ws key other in
    let same = same_kinds shape.root_kinds (root_part shape vs) (root_part shape ws) (of_front shape.root_kinds shape.rest_kinds vs p.kinds) (of_front shape.root_kinds shape.rest_kinds ws q.kinds) in
    let whole : (scatter_of shape.scatter (root_part shape vs) ++ spell_all (root_part shape vs)) ++ shape.table ∷ spell_all (rest_part shape vs)
    ≡ (scatter_of shape.scatter (root_part shape ws) ++ spell_all (root_part shape ws)) ++ shape.table ∷ spell_all (rest_part shape ws) = ap (drop 1) (sym p.is ∙ q.is) in
    alike_head shape.root shape.scatter (root_part shape vs) (root_part shape ws)
    (heads_alike shape.scatter (root_part shape vs) (root_part shape ws) (shape.table ∷ spell_all (rest_part shape vs)) (shape.table ∷ spell_all (rest_part shape ws)) same whole)

-- ---- a key that an item of a group names

-- is a key of no other group
pub one_group : (s : Schema) → IsDeclared s → (group other : List ℕ) (i n : ℕ) (values : List Value) (key : List ℕ) → key_in s group i n values ≡ Ok key → KeyOf s other key → group ≡ other
one_group s d group other i n values key names key_of_other = by key_of_other
  where
    found : (t : Table) × (numbered s.tables n ≡ Some t)
    found = key_in_table_of s group i n values key names

    t : Table
    t = found.0

    parts : (group_of s n t values ≡ Ok group) × (key_of s n t values ≡ Ok key)
    parts = key_in_at s group i n t values key found.1 names

    group_is : group ≡ group_bytes (shape_of s n t) (root_part (shape_of s n t) values)
    group_is = (group_spelt (shape_of s n t) (root_part (shape_of s n t) values) group parts.0).is

    by : KeyOf s other key → group ≡ other
    by (a_spelled m u others there own of_other) =
        let number : n ≡ m = one_table s d n m t u values others key found.1 there parts.1 own in
        let table : t ≡ u = one_numbered s n m t u found.1 there number in
        let own_here : key_of s n t others ≡ Ok key = coe 1 0 (j. key_of s (number j) (table j) others ≡ Ok key) own in
        let group_here : group_of s n t others ≡ Ok other = coe 1 0 (j. group_of s (number j) (table j) others ≡ Ok other) of_other in
        group_is ∙ spelled_one_group s n t values others key parts.1 own_here ∙ sym (group_spelt (shape_of s n t) (root_part (shape_of s n t) others) other group_here).is
    by (a_read m u there is) =
        let number : n ≡ m = read_one_table s d n m t u values key other found.1 there parts.1 is in
        let table : t ≡ u = one_numbered s n m t u found.1 there number in
        let here : IsKeyOf s n t other key = coe 1 0 (j. IsKeyOf s (number j) (table j) other key) is in
        group_is ∙ read_one_group s n t values key other parts.1 here
    by (an_entry m u row there some) = absurd (some (no_entry s d m n u t values key there found.1 parts.1 row))
