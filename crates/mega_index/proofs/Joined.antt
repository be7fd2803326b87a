-- Two lists in order of key, joined by their keys: it is one whichever of the two is gone through.
use Rattle.std.proofs.Common.{◌≡◌, ◌∙◌, ap, sym, refl, ℕ, Bool, true, false, cond, List, [], ◌∷◌, ◌++◌, ◌||◌}
use Rattle.std.specs.Prelude.{Option, Some, None, filter}
use Rattle.std.specs.declared.cmp.Ordering.TheVariants.{Less, Equal}
use Rattle.std.specs.Ordering.{is_eq}
use Rattle.std.specs.Map.{lookup}
use Rattle.std.specs.List.{AllByRecursion, list_any}
use Rattle.std.specs.List.Sorted.{IsStrictlySortedBy}
use Rattle.std.proofs.lemmas.Map.Keys.{sorted_head, sorted_tail}
use Rattle.std.specs.BTreeSet.{BTreeSet, contains}
use Rattle.mega_base.specs.declared.values.Row.{Row}
use Rattle.mega_index.specs.declared.held.Held.{Held}
use Rattle.mega_row_writes.specs.Rows.{Listed, key_cmp, same_key}
use Rattle.mega_index.specs.Marks.{held_rows}
use Rattle.mega_index.specs.Wanted.{Wanted, is_in, rows_wanted, all_wanted}
use Rattle.mega_index.specs.Keeping.{marks_in, rows_at, group_wanted}
use Rattle.mega_index.proofs.Ordered.{Below, Ascends, below-none, below-trans, turn_less, turn_greater, by_order, by_test, equal_keys}

abbrev pub by_some : {Y Z : Type 0} → (Y → List Z) → Option Y → List Z
by_some f None = []
by_some f (Some y) = f y

module _ {X Y Z : Type 0} (f : List ℕ → X → Y → List Z) where
  abbrev pub through_first : List (List ℕ × X) → List (List ℕ × Y) → List Z
  through_first [] ys = []
  through_first (a ∷ xs) ys = by_some (f a.0 a.1) (lookup (same_key a.0) ys) ++ through_first xs ys

  abbrev pub through_second : List (List ℕ × X) → List (List ℕ × Y) → List Z
  through_second xs [] = []
  through_second xs (b ∷ ys) = by_some (λ x. f b.0 x b.1) (lookup (same_key b.0) xs) ++ through_second xs ys

  -- a key before all others is joined with none of them
  skip : (a : List ℕ × X) (xs : List (List ℕ × X)) (ys : List (List ℕ × Y)) → Below a.0 ys → through_second (a ∷ xs) ys ≡ through_second xs ys
  skip a xs [] below = refl
  skip a xs (b ∷ ys) below =
      ap (λ o. by_some (λ x. f b.0 x b.1) (cond (is_eq o) (Some a.1) (lookup (same_key b.0) xs)) ++ through_second (a ∷ xs) ys) (turn_greater a.0 b.0 below.0)
      ∙ ap (λ rest. by_some (λ x. f b.0 x b.1) (lookup (same_key b.0) xs) ++ rest) (skip a xs ys below.1)

  none_second : (ys : List (List ℕ × Y)) → through_second [] ys ≡ []
  none_second [] = refl
  none_second (b ∷ ys) = none_second ys

  first_on : (a : List ℕ × X) (xs : List (List ℕ × X)) (ys : List (List ℕ × Y)) → Below a.0 xs → Ascends ys
      → through_second (a ∷ xs) ys ≡ by_some (f a.0 a.1) (lookup (same_key a.0) ys) ++ through_second xs ys
  first_on a xs [] below up = refl
  first_on a xs (b ∷ ys) below up =
      by_order (key_cmp a.0 b.0) _
      (λ less.
      skip a xs (b ∷ ys) (less, below-trans a.0 b.0 ys less up.0)
      ∙ sym (ap (λ o. by_some (f a.0 a.1) o ++ through_second xs (b ∷ ys)) (below-none a.0 (b ∷ ys) (less, below-trans a.0 b.0 ys less up.0))))
      (λ equal. at equal (equal_keys a.0 b.0 equal))
      (λ greater.
      ap (λ o. by_some (λ x. f b.0 x b.1) o ++ through_second (a ∷ xs) ys) (below-none b.0 (a ∷ xs) (turn_less a.0 b.0 greater, below-trans b.0 a.0 xs (turn_less a.0 b.0 greater) below))
      ∙ first_on a xs ys below up.1
      ∙ sym (ap (λ o. by_some (f a.0 a.1) (cond (is_eq o) (Some b.1) (lookup (same_key a.0) ys)) ++ through_second xs (b ∷ ys)) greater
      ∙ ap (λ o. by_some (f a.0 a.1) (lookup (same_key a.0) ys) ++ (by_some (λ x. f b.0 x b.1) o ++ through_second xs ys)) (below-none b.0 xs (below-trans b.0 a.0 xs (turn_less a.0 b.0 greater) below))))
    where
      at : key_cmp a.0 b.0 ≡ Equal → a.0 ≡ b.0 → through_second (a ∷ xs) (b ∷ ys) ≡ by_some (f a.0 a.1) (lookup (same_key a.0) (b ∷ ys)) ++ through_second xs (b ∷ ys)
      at equal same =
          let back : key_cmp b.0 a.0 ≡ Equal = ap (λ k. key_cmp k a.0) (sym same) ∙ (ap (λ k. key_cmp a.0 k) same ∙ equal) in
          ap (λ o. by_some (λ x. f b.0 x b.1) (cond (is_eq o) (Some a.1) (lookup (same_key b.0) xs)) ++ through_second (a ∷ xs) ys) back
          ∙ ap (λ rest. f b.0 a.1 b.1 ++ rest) (skip a xs ys (subst-below (sym same) up.0))
          ∙ sym (ap (λ o. by_some (f a.0 a.1) (cond (is_eq o) (Some b.1) (lookup (same_key a.0) ys)) ++ through_second xs (b ∷ ys)) equal
          ∙ ap (λ k. f k a.1 b.1 ++ through_second xs (b ∷ ys)) same
          ∙ ap (λ o. f b.0 a.1 b.1 ++ (by_some (λ x. f b.0 x b.1) o ++ through_second xs ys)) (below-none b.0 xs (coe 0 1 (i. Below (same i) xs) below)))
        where
          subst-below : b.0 ≡ a.0 → Below b.0 ys → Below a.0 ys
          subst-below e h = coe 0 1 (i. Below (e i) ys) h

  pub either_way : (xs : List (List ℕ × X)) (ys : List (List ℕ × Y)) → Ascends xs → Ascends ys → through_first xs ys ≡ through_second xs ys
  either_way [] ys up-a up-b = sym (none_second ys)
  either_way (a ∷ xs) ys up-a up-b =
      ap (λ rest. by_some (f a.0 a.1) (lookup (same_key a.0) ys) ++ rest) (either_way xs ys up-a.1 up-b) ∙ sym (first_on a xs ys up-a.0 up-b)

-- the rows under these keys
abbrev pub picked : List (List ℕ × Option Row) → List (List ℕ) → Listed
picked slots [] = []
picked slots (k ∷ ks) = rows_at k (lookup (same_key k) slots) ++ picked slots ks

-- those of groups
abbrev pub picked_groups : List (List ℕ × Held) → List (List ℕ × BTreeSet (List ℕ)) → Listed
picked_groups groups [] = []
picked_groups groups (w ∷ ws) = group_wanted w.1 (lookup (same_key w.0) groups) ++ picked_groups groups ws

-- keys as entries
abbrev pub pairs : List (List ℕ) → List (List ℕ × Unit {0})
pairs [] = []
pairs (k ∷ ks) = (k, tt) ∷ pairs ks

below-pairs : (k : List ℕ) (ks : List (List ℕ)) → AllByRecursion (λ y. key_cmp k y ≡ Less) ks → Below k (pairs ks)
below-pairs k [] all = tt
below-pairs k (q ∷ ks) all = (all.0, below-pairs k ks all.1)

-- the keys of an ordered set ascend
pub ascends-keys : (ks : List (List ℕ)) → IsStrictlySortedBy key_cmp ks → Ascends (pairs ks)
ascends-keys [] sorted = tt
ascends-keys (k ∷ ks) sorted = (below-pairs k ks (sorted_head key_cmp k ks sorted), ascends-keys ks (sorted_tail key_cmp k ks sorted))

abbrev at_key : List ℕ → Unit {0} → Option Row → Listed
at_key k u v = rows_at k (Some v)

at_some : (k : List ℕ) (o : Option (Option Row)) → rows_at k o ≡ by_some (at_key k tt) o
at_some k None = refl
at_some k (Some v) = refl

picked-first : (slots : List (List ℕ × Option Row)) (ks : List (List ℕ)) → picked slots ks ≡ through_first at_key (pairs ks) slots
picked-first slots [] = refl
picked-first slots (k ∷ ks) = λ i. at_some k (lookup (same_key k) slots) i ++ picked-first slots ks i

key_found : (q : List ℕ) (ks : List (List ℕ)) → lookup (same_key q) (pairs ks) ≡ cond (list_any (same_key q) ks) (Some tt) None
key_found q [] = refl
key_found q (k ∷ ks) = by_test (same_key q k) _
    (λ h. ap (λ b. cond b (Some tt) (lookup (same_key q) (pairs ks))) h ∙ sym (ap (λ b. cond (b || list_any (same_key q) ks) (Some tt) None) h))
    (λ h. ap (λ b. cond b (Some tt) (lookup (same_key q) (pairs ks))) h ∙ key_found q ks ∙ sym (ap (λ b. cond (b || list_any (same_key q) ks) (Some tt) None) h))

empty_slot : (q : List ℕ) (o : Option (Unit {0})) (rest : Listed) → by_some (λ u. at_key q u None) o ++ rest ≡ rest
empty_slot q None rest = refl
empty_slot q (Some u) rest = refl

full_slot : (q : List ℕ) (row : Row) (b : Bool) (rest : Listed) → by_some (λ u. at_key q u (Some row)) (cond b (Some tt) None) ++ rest ≡ cond b ((q, row) ∷ rest) rest
full_slot q row true rest = refl
full_slot q row false rest = refl

second-filtered : (keys : BTreeSet (List ℕ)) (slots : List (List ℕ × Option Row)) → through_second at_key (pairs keys.keys) slots ≡ rows_wanted keys (held_rows slots)
second-filtered keys [] = refl
second-filtered keys ((q, None) ∷ slots) = empty_slot q (lookup (same_key q) (pairs keys.keys)) (through_second at_key (pairs keys.keys) slots) ∙ second-filtered keys slots
second-filtered keys ((q, Some row) ∷ slots) =
    ap (λ o. by_some (λ u. at_key q u (Some row)) o ++ through_second at_key (pairs keys.keys) slots) (key_found q keys.keys)
    ∙ full_slot q row (list_any (same_key q) keys.keys) (through_second at_key (pairs keys.keys) slots)
    ∙ ap (λ rest. cond (contains key_cmp keys q) ((q, row) ∷ rest) rest) (second-filtered keys slots)

-- going through the keys gives what going through the rows gives
pub picked-wanted : (slots : List (List ℕ × Option Row)) (keys : BTreeSet (List ℕ)) → Ascends slots → IsStrictlySortedBy key_cmp keys.keys
    → picked slots keys.keys ≡ rows_wanted keys (held_rows slots)
picked-wanted slots keys up sorted =
    picked-first slots keys.keys ∙ either_way at_key (pairs keys.keys) slots (ascends-keys keys.keys sorted) up ∙ second-filtered keys slots

abbrev in_group : List ℕ → BTreeSet (List ℕ) → Held → Listed
in_group g keys held = rows_wanted keys (held_rows held.rows.entries)

in_some : (g : List ℕ) (keys : BTreeSet (List ℕ)) (o : Option Held) → group_wanted keys o ≡ by_some (in_group g keys) o
in_some g keys None = refl
in_some g keys (Some held) = refl

groups-first : (groups : List (List ℕ × Held)) (ws : List (List ℕ × BTreeSet (List ℕ))) → picked_groups groups ws ≡ through_first in_group ws groups
groups-first groups [] = refl
groups-first groups (w ∷ ws) = λ i. in_some w.0 w.1 (lookup (same_key w.0) groups) i ++ groups-first groups ws i

none_wanted : (rows : Listed) → [] ≡ filter (λ (e : List ℕ × Row). is_in e.0 None) rows
none_wanted [] = refl
none_wanted (e ∷ rows) = none_wanted rows

if_wanted : (g : List ℕ) (held : Held) (o : Option (BTreeSet (List ℕ))) → by_some (λ keys. in_group g keys held) o ≡ filter (λ (e : List ℕ × Row). is_in e.0 o) (held_rows held.rows.entries)
if_wanted g held None = none_wanted (held_rows held.rows.entries)
if_wanted g held (Some keys) = refl

groups-filtered : (wanted : Wanted) (groups : List (List ℕ × Held)) → through_second in_group wanted.entries groups ≡ all_wanted wanted (marks_in groups)
groups-filtered wanted [] = refl
groups-filtered wanted (g ∷ groups) = λ i. if_wanted g.0 g.1 (lookup (same_key g.0) wanted.entries) i ++ groups-filtered wanted groups i

pub groups-wanted : (groups : List (List ℕ × Held)) (wanted : Wanted) → Ascends groups → Ascends wanted.entries → picked_groups groups wanted.entries ≡ all_wanted wanted (marks_in groups)
groups-wanted groups wanted up-groups up-wanted =
    groups-first groups wanted.entries ∙ either_way in_group wanted.entries groups up-wanted up-groups ∙ groups-filtered wanted groups
