-- What is found of a group's tables is what a list of its rows shows.
use Rattle.std.proofs.Common.{◌≡◌, inl, inr, ⊎_elim, ℕ, cond, Bool, true, false, List, [], ◌∷◌, refl, sym, ap, ◌∙◌, Option, Some, None}
use Rattle.std.specs.Prelude.{filter, is_some, map, option_map}
use Rattle.std.specs.Map.{keys_of, lookup}
use Rattle.std.specs.BTreeMap.{BTreeMap, get}
use Rattle.std.specs.List.{cons_option}
use Rattle.std.specs.List.Sorted.{IsStrictlySortedBy}
use Rattle.mega_base.specs.declared.names.GroupId.{GroupId}
use Rattle.mega_base.specs.declared.values.Row.{Row}
use Rattle.mega_disk.specs.VersionMaps.{HasRow}
use Rattle.mega_schema.specs.declared.schema.Schema.{Schema}
use Rattle.mega_index.specs.Rows.{Listed, Rows, key_cmp, row_under, same_key}
use Rattle.mega_index.specs.Fitted.{table_of}
use Rattle.mega_index.proofs.Ordered.{Ascends, Below, ascends-sorted, below-none}
use Rattle.mega_outcome.specs.declared.answer.Shown.{Shown}
use Rattle.mega_outcome.specs.Reads.{all_rows, shown_in}
use Rattle.mega_index.proofs.KeyLists.{key_is, same_self}
use Rattle.mega_replica.proofs.RowLists.{Covers, ascends, has_row, row_is, same_rows}
use Rattle.mega_view.specs.TableRows.{AreTableRows}
use Rattle.mega_view.specs.Shows.{Shows}

abbrev Entries : Type 0
Entries = List (List ℕ × Shown)

-- the rows without the numbers of their tables
abbrev pub plain : List (List ℕ × Shown) → Listed
plain entries = map (λ (e : List ℕ × Shown). (e.0, e.1.row)) entries

some_is : {A : Type 0} (a b : A) → Some a ≡ Some b → a ≡ b
some_is a b h = cc

none_is : {A : Type 0} (a : A) → None ≡ Some a → ⊥
none_is a h = cc

-- ---- entries in order of key

below_plain : (k : List ℕ) (es : Entries) → Below k es → Below k (plain es)
below_plain k [] below = tt
below_plain k (e ∷ es) below = (below.0, below_plain k es below.1)

ascends_plain : (es : Entries) → Ascends es → Ascends (plain es)
ascends_plain [] up = tt
ascends_plain (e ∷ es) up = (below_plain e.0 es up.0, ascends_plain es up.1)

under_plain : (es : Entries) (key : List ℕ) → row_under (plain es) key ≡ option_map (λ (one : Shown). one.row) (lookup (same_key key) es)
under_plain [] key = refl
under_plain (e ∷ es) key = by (same_key key e.0) (under_plain es key)
  where
    by : (b : Bool) → row_under (plain es) key ≡ option_map (λ (one : Shown). one.row) (lookup (same_key key) es)
        → cond b (Some e.1.row) (row_under (plain es) key) ≡ option_map (λ (one : Shown). one.row) (cond b (Some e.1) (lookup (same_key key) es))
    by true more = refl
    by false more = more

some_row : (o : Option Shown) (row : Row) → option_map (λ (one : Shown). one.row) o ≡ Some row → (one : Shown) × (o ≡ Some one) × (one.row ≡ row)
some_row None row h = absurd (none_is row h)
some_row (Some one) row h = (one, refl, some_is one.row row h)

-- ---- lists without what is no table's

below_filter : (test : List ℕ × Row → Bool) (k : List ℕ) (es : Listed) → Below k es → Below k (filter test es)
below_filter test k [] below = tt
below_filter test k (e ∷ es) below = elim (test e) as (λ b. Below k (cond b (e ∷ filter test es) (filter test es))) [ true ↦ (below.0, below_filter test k es below.1) | false ↦ below_filter test k es below.1 ]

pub ascends_filter : (test : List ℕ × Row → Bool) (es : Listed) → Ascends es → Ascends (filter test es)
ascends_filter test [] up = tt
ascends_filter test (e ∷ es) up =
    elim (test e) as (λ b. Ascends (cond b (e ∷ filter test es) (filter test es))) [ true ↦ (below_filter test e.0 es up.0, ascends_filter test es up.1) | false ↦ ascends_filter test es up.1 ]

in_filter : (test : List ℕ → Bool) (es : Listed) (key : List ℕ) (row : Row) → test key ≡ true → HasRow es key row → HasRow (filter (λ (e : List ℕ × Row). test e.0) es) key row
in_filter test [] key row passes has = absurd has
in_filter test (e ∷ es) key row passes has = by (test e.0) refl (in_filter test es key row passes) has
  where
    by : (b : Bool) → test e.0 ≡ b → (HasRow es key row → HasRow (filter (λ (e : List ℕ × Row). test e.0) es) key row) → HasRow (e ∷ es) key row → HasRow (cond b (e ∷ filter (λ (e : List ℕ × Row). test e.0) es) (filter (λ (e : List ℕ × Row). test e.0) es)) key row
    by true is more has = ⊎_elim (λ here. inl here) (λ later. inr (more later)) has
    by false is more has = ⊎_elim (λ here. absurd (let both : true ≡ false = sym passes ∙ ap test (sym here.0) ∙ is in cc)) more has

of_filter : (test : List ℕ → Bool) (es : Listed) (key : List ℕ) (row : Row) → HasRow (filter (λ (e : List ℕ × Row). test e.0) es) key row → (test key ≡ true) × HasRow es key row
of_filter test [] key row has = absurd has
of_filter test (e ∷ es) key row has = by (λ found. let more = of_filter test es key row found in (more.0, inr more.1)) (test e.0) refl has
  where
    by : (HasRow (filter (λ (e : List ℕ × Row). test e.0) es) key row → (test key ≡ true) × HasRow (e ∷ es) key row)
        → (b : Bool) → test e.0 ≡ b → HasRow (cond b (e ∷ filter (λ (e : List ℕ × Row). test e.0) es) (filter (λ (e : List ℕ × Row). test e.0) es)) key row → (test key ≡ true) × HasRow (e ∷ es) key row
    by later true is found = ⊎_elim (λ here. (ap test (sym here.0) ∙ is, inl here)) later found
    by later false is found = later found

-- ---- what is shown of all rows

-- the rows of the group's tables
abbrev table_rows : Schema → GroupId → Listed → Listed
table_rows schema group listed = filter (λ (one : List ℕ × Row). is_some (table_of schema group.key one.0)) listed

module _ (s : Schema) (group : GroupId) where
  abbrev is_table : List ℕ → Bool
  is_table key = is_some (table_of s group.key key)

  all_of_tables : (listed : Listed) → all_rows s group listed ≡ all_rows s group (table_rows s group listed)
  all_of_tables [] = refl
  all_of_tables (e ∷ listed) = by (table_of s group.key e.0) refl (all_of_tables listed)
    where
      rest : Listed
      rest = table_rows s group listed

      by : (o : Option ℕ) → table_of s group.key e.0 ≡ o → all_rows s group listed ≡ all_rows s group rest → all_rows s group (e ∷ listed) ≡ all_rows s group (table_rows s group (e ∷ listed))
      by None is more =
          ap (λ (o : Option ℕ). cons_option (shown_in o e.1) (all_rows s group listed)) is ∙ more ∙ ap (λ (o : Option ℕ). all_rows s group (cond (is_some o) (e ∷ rest) rest)) (sym is)
      by (Some n) is more =
          ap (λ (shown : List (Option Shown)). cons_option (shown_in (table_of s group.key e.0) e.1) shown) more
          ∙ ap (λ (o : Option ℕ). all_rows s group (cond (is_some o) (e ∷ rest) rest)) (sym is)

  abbrev EachTable : Entries → Type 0
  EachTable [] = Unit {0}
  EachTable (e ∷ es) = (table_of s group.key e.0 ≡ Some e.1.table) × EachTable es

  shown_each : (es : Entries) → Ascends es → ((key : List ℕ) (one : Shown) → lookup (same_key key) es ≡ Some one → table_of s group.key key ≡ Some one.table) → EachTable es
  shown_each [] up each = tt
  shown_each (e ∷ es) up each = (each e.0 e.1 (ap (λ (b : Bool). cond b (Some e.1) (lookup (same_key e.0) es)) (same_self e.0)), shown_each es up.1 later)
    where
      later : (key : List ℕ) (one : Shown) → lookup (same_key key) es ≡ Some one → table_of s group.key key ≡ Some one.table
      later key one h = by (same_key key e.0) refl
        where
          by : (b : Bool) → same_key key e.0 ≡ b → table_of s group.key key ≡ Some one.table
          by true same = absurd (none_is one (sym (below-none e.0 es up.0) ∙ ap (λ (k : List ℕ). lookup (same_key k) es) (sym (key_is key e.0 same)) ∙ h))
          by false apart = each key one (ap (λ (b : Bool). cond b (Some e.1) (lookup (same_key key) es)) apart ∙ h)

  all_plain : (es : Entries) → EachTable es → all_rows s group (plain es) ≡ map (λ (e : List ℕ × Shown). Some e.1) es
  all_plain [] each = refl
  all_plain (e ∷ es) each =
      ap (λ (o : Option ℕ). cons_option (shown_in o e.1.row) (all_rows s group (plain es))) each.0 ∙ ap (λ (shown : List (Option Shown)). Some e.1 ∷ shown) (all_plain es each.1)

all_some : (es : Entries) → map Some (map (λ (e : List ℕ × Shown). e.1) es) ≡ map (λ (e : List ℕ × Shown). Some e.1) es
all_some [] = refl
all_some (e ∷ es) = ap (λ (shown : List (Option Shown)). Some e.1 ∷ shown) (all_some es)

-- ---- all that was found

module _ (s : Schema) (group : GroupId) (looked : Rows) (listed : Listed) (found : BTreeMap (List ℕ) Shown) (sorted : IsStrictlySortedBy key_cmp (keys_of found.entries))
    (tables : AreTableRows s group.key looked (get key_cmp found)) (shows : Shows s group looked listed) where
  up : Ascends found.entries
  up = ascends-sorted found.entries sorted

  up_listed : Ascends listed
  up_listed = ascends listed shows.ordered

  into : Covers (plain found.entries) (table_rows s group listed)
  into key row has =
      let one = some_row (lookup (same_key key) found.entries) row (sym (under_plain found.entries key) ∙ row_is (plain found.entries) key row (ascends_plain found.entries up) has) in
      let told = tables.each key one.0 one.1 in
      in_filter (is_table s group) listed key row (ap is_some told.1) (has_row listed key row (sym (shows.under key one.0.table told.0) ∙ told.2 ∙ ap Some one.2))

  back : Covers (table_rows s group listed) (plain found.entries)
  back key row has = by (table_of s group.key key) refl (of_filter (is_table s group) listed key row has).0
    where
      there : HasRow listed key row
      there = (of_filter (is_table s group) listed key row has).1

      by : (o : Option ℕ) → table_of s group.key key ≡ o → is_some o ≡ true → HasRow (plain found.entries) key row
      by None is some = absurd (cc)
      by (Some n) is some =
          has_row (plain found.entries) key row
          (under_plain found.entries key
          ∙ ap (option_map (λ (one : Shown). one.row)) (tables.all key n row (shows.named key row n there is) is (shows.under key n (shows.named key row n there is) ∙ row_is listed key row up_listed there)))

  -- what is found is what the list has of the group's tables
  pub listed_all : plain found.entries ≡ table_rows s group listed
  listed_all =
      same_rows (plain found.entries) (table_rows s group listed) (ascends_plain found.entries up) (ascends_filter (λ (e : List ℕ × Row). is_table s group e.0) listed up_listed) into back

  pub shown_all : map Some (map (λ (e : List ℕ × Shown). e.1) found.entries) ≡ all_rows s group listed
  shown_all =
      all_some found.entries ∙ sym (all_plain s group found.entries (shown_each s group found.entries up (λ key one h. (tables.each key one h).1)))
      ∙ ap (all_rows s group) listed_all ∙ sym (all_of_tables s group listed)
