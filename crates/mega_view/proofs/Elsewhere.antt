-- A local index has nothing where no group is named: its entries begin with the number of a table.
use Rattle.std.proofs.Common.{◌≡◌, ℕ, ◌+◌, ◌≤◌, cond, eqb, Bool, true, false, ◌&&◌, List, [], ◌∷◌, ◌++◌, length, map, fold, take, take_all, refl, sym, ap, ◌∙◌, subst, arith, Option, Some, None, Result, Ok, Err}
use Rattle.std.specs.Prelude.{filter, nat_eq, nat_le}
use Rattle.std.specs.List.{starts_with}
use Rattle.std.specs.BTreeMap.{insert_entry}
use Rattle.std.specs.declared.cmp.Ordering.{Ordering}
use Rattle.std.specs.declared.cmp.Ordering.TheVariants.{Less, Equal, Greater}
use Rattle.std.specs.Ordering.{match_ordering}
use Rattle.std.proofs.lemmas.Bool.Decides.{nat_tests}
use Rattle.mega_base.specs.declared.values.Row.{Row}
use Rattle.mega_base.specs.declared.values.Value.{Value}
use Rattle.mega_schema.specs.declared.schema.Index.{Index}
use Rattle.mega_schema.specs.declared.schema.Schema.{Schema}
use Rattle.mega_schema.specs.declared.schema.Table.{Table}
use Rattle.mega_schema.specs.Shaping.{shape_of}
use Rattle.mega_keys.specs.declared.fault.KeyFault.{KeyFault}
use Rattle.mega_keys.specs.Fit.{misplaced}
use Rattle.mega_keys.specs.Spelling.{index_bytes, root_part, scatter_of, spell_all}
use Rattle.mega_index.specs.declared.found.Found.{Found}
use Rattle.mega_index.specs.Cells.{key_values}
use Rattle.mega_index.specs.Entries.{found_of, index_of, placed, with_row_under}
use Rattle.mega_index.specs.Finding.{begun_by, found_by, found_in, found_over, front_of, indexed_kinds, unless_misplaced}
use Rattle.mega_index.specs.Fits.{choices, entry_keys, group_bytes_of, group_of, index_keys, indexes_of, numbered, prefix_of, stands_in}
use Rattle.mega_index.specs.Marks.{global_found, global_found_in}
use Rattle.mega_index.specs.Rows.{Listed, key_cmp}
use Rattle.mega_view.specs.Small.{IsSmall}
use Rattle.mega_view.proofs.Found.{stands_key}
use Rattle.mega_view.proofs.Grouped.{has_group}
use Rattle.mega_view.proofs.RowKeys.{group_spelt}

abbrev Entries : Type 0
Entries = List (List ℕ × Found)

-- no key of these begins so
abbrev NoneBegins : List ℕ → Entries → Type 0
NoneBegins front [] = Unit {0}
NoneBegins front (e ∷ es) = (starts_with nat_eq e.0 front ≡ false) × NoneBegins front es

abbrev AllApart : List ℕ → List (List ℕ) → Type 0
AllApart front [] = Unit {0}
AllApart front (key ∷ keys) = (starts_with nat_eq key front ≡ false) × AllApart front keys

none_found : (front : List ℕ) (es : Entries) → NoneBegins front es → begun_by front es ≡ []
none_found front [] none = refl
none_found front (e ∷ es) none = ap (λ (b : Bool). map (λ (f : List ℕ × Found). f.1) (cond b (e ∷ filter (λ (f : List ℕ × Found). starts_with nat_eq f.0 front) es) (filter (λ (f : List ℕ × Found). starts_with nat_eq f.0 front) es))) none.0 ∙ none_found front es none.1

insert_none : (front key : List ℕ) (value : Found) (es : Entries) → starts_with nat_eq key front ≡ false → NoneBegins front es → NoneBegins front (insert_entry key_cmp es key value)
insert_none front key value [] apart none = (apart, tt)
insert_none front key value (e ∷ es) apart none = by (insert_none front key value es apart none.1) (key_cmp key e.0)
  where
    by : NoneBegins front (insert_entry key_cmp es key value) → (o : Ordering) → NoneBegins front (match_ordering o ((key, value) ∷ e ∷ es) ((e.0, value) ∷ es) (e ∷ insert_entry key_cmp es key value))
    by more Less = (apart, none)
    by more Equal = (none.0, none.1)
    by more Greater = (none.0, more)

placed_none : (front : List ℕ) (value : Found) (keys : List (List ℕ)) (es : Entries) → AllApart front keys → NoneBegins front es → NoneBegins front (placed es value keys)
placed_none front value [] es apart none = none
placed_none front value (key ∷ keys) es apart none = placed_none front value keys (insert_entry key_cmp es key value) apart.1 (insert_none front key value es apart.0 none)

kept_apart : (front : List ℕ) (test : List ℕ → Bool) (keys : List (List ℕ)) → AllApart front keys → AllApart front (filter test keys)
kept_apart front test [] apart = tt
kept_apart front test (key ∷ keys) apart = by (test key) (kept_apart front test keys apart.1)
  where
    by : (b : Bool) → AllApart front (filter test keys) → AllApart front (cond b (key ∷ filter test keys) (filter test keys))
    by true more = (apart.0, more)
    by false more = more

-- a key that begins with the number of a table is no entry of a global index
apart_first : (root number : ℕ) (tail rest more : List ℕ) → root ≤ 64 → starts_with nat_eq ((root ∷ tail) ++ rest) ((127 + number) ∷ more) ≡ false
apart_first root number tail rest more le = first (nat_eq (127 + number) root) _ (other root number le)
  where
    first : (a b : Bool) → a ≡ false → (a && b) ≡ false
    first a b is = ap (λ (t : Bool). t && b) is

    other : (root number : ℕ) → root ≤ 64 → nat_eq (127 + number) root ≡ false
    other root number le = grind (arith, nat_tests)

choices_apart : (number root : ℕ) (tail more : List ℕ) (key : List Value) (chosen : List (List Value)) → root ≤ 64
    → AllApart ((127 + number) ∷ more) (map (λ choice. index_bytes number (root ∷ tail) choice key) chosen)
choices_apart number root tail more key [] le = tt
choices_apart number root tail more key (choice ∷ chosen) le =
    (apart_first root number tail ((127 + number) ∷ (spell_all choice ++ spell_all key)) more le, choices_apart number root tail more key chosen le)

module _ (s : Schema) (small : IsSmall s) (number : ℕ) (x : Index) (local : x.global ≡ false) (values : List Value) where
  abbrev front : List ℕ
  front = front_of number x [] values

  front_is : front ≡ (127 + number) ∷ spell_all values
  front_is = ap (λ (b : Bool). cond b [] [] ++ (127 + number) ∷ spell_all values) local

  abbrev from_group : Result (List ℕ) KeyFault → List ℕ
  from_group (Ok group) = group
  from_group (Err fault) = []

  row_apart : (t : Table) (e : List ℕ × Row) → numbered s.tables x.table ≡ Some t → stands_in s x.table (Some t) e.0 e.1 ≡ true
      → AllApart front (entry_keys number x (group_bytes_of s x.table t e.1) (key_values t.primary e.1) e.1)
  row_apart t e there stand = kept_apart front (λ k. nat_le (length k) 1024) (index_keys number x (group_bytes_of s x.table t e.1) key e.1)
      (coe 1 0 (i. AllApart (front_is i) (map (λ choice. index_bytes number (prefix_is i) choice key) (choices e.1 x.indexed)))
      (choices_apart number t.root tail (spell_all values) key (choices e.1 x.indexed) (small.roots x.table t there)))
    where
      key : List Value
      key = key_values t.primary e.1

      root : List Value
      root = root_part (shape_of s x.table t) key

      tail : List ℕ
      tail = scatter_of (shape_of s x.table t).scatter root ++ spell_all root

      found : (group : List ℕ) × (group_of s x.table t key ≡ Ok group)
      found = has_group s x.table t key e.0 (stands_key s x.table t e.0 e.1 stand)

      group_is : group_bytes_of s x.table t e.1 ≡ t.root ∷ tail
      group_is = ap from_group found.1 ∙ group_spelt (shape_of s x.table t) root found.0 found.1

      prefix_is : prefix_of x (group_bytes_of s x.table t e.1) ≡ t.root ∷ tail
      prefix_is = ap (λ (b : Bool). cond b [] (group_bytes_of s x.table t e.1)) local ∙ group_is

  rows_apart : (o : Option Table) → numbered s.tables x.table ≡ o → (rows : Listed) (es : Entries) → NoneBegins front es → NoneBegins front (fold (λ entries one. with_row_under s number x o entries one) es rows)
  rows_apart o there [] es none = none
  rows_apart None there (e ∷ rows) es none = rows_apart None there rows es none
  rows_apart (Some t) there (e ∷ rows) es none = rows_apart (Some t) there rows (with_row_under s number x (Some t) es e) (by (stands_in s x.table (Some t) e.0 e.1) refl)
    where
      keys : List (List ℕ)
      keys = entry_keys number x (group_bytes_of s x.table t e.1) (key_values t.primary e.1) e.1

      by : (b : Bool) → stands_in s x.table (Some t) e.0 e.1 ≡ b → NoneBegins front (cond b (placed es (found_of x t e.1) keys) es)
      by true is = placed_none front (found_of x t e.1) keys es (row_apart t e there is) none
      by false is = none

  pub nothing_there : (a b : Listed) → found_in s number x [] values a ≡ found_in s number x [] values b
  nothing_there a b =
      ap (unless_misplaced (misplaced (indexed_kinds s x) values 0))
      (none_found front (index_of s number x a) (rows_apart (numbered s.tables x.table) refl a [] tt) ∙ sym (none_found front (index_of s number x b) (rows_apart (numbered s.tables x.table) refl b [] tt)))

-- ---- what is found at the marks

pub local_there : (s : Schema) (number : ℕ) (x : Index) (values : List Value) (rows : Listed) → IsSmall s → numbered s.indexes number ≡ Some x → x.global ≡ false
    → found_over s number [] values [] ≡ found_over s number [] values rows
local_there s number x values rows small is local =
    ap (λ (o : Option Index). found_by s number o [] values []) is ∙ nothing_there s small number x local values [] rows ∙ ap (λ (o : Option Index). found_by s number o [] values rows) (sym is)

global_by : (s : Schema) (number : ℕ) (o : Option Index) (values : List Value) (rows : Listed) → ((x : Index) → o ≡ Some x → x.global ≡ true) → global_found_in s number o values rows ≡ found_by s number o [] values rows
global_by s number None values rows global = refl
global_by s number (Some x) values rows global = ap (λ (b : Bool). cond b (found_in s number x [] values rows) (Ok [])) (global x refl)

pub global_there : (s : Schema) (number : ℕ) (values : List Value) (rows : Listed) → IsSmall s → ((x : Index) → numbered s.indexes number ≡ Some x → x.global ≡ true)
    → global_found s number values rows ≡ found_over s number [] values rows
global_there s number values rows small global =
    ap (λ (all : List Index). global_found_in s number (numbered all number) values rows) (take_all 64 s.indexes small.indexes)
    ∙ global_by s number (numbered s.indexes number) values rows global
