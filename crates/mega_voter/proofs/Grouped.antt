-- The groups with a decided position: two lists in order with the same groups are one.
use Rattle.std.proofs.Common.{◌≡◌, ℕ, ◌<◌, ◌||◌, Bool, true, false, cond, max, nat_lt, List, [], ◌∷◌, Ordering, Less, Equal, Greater, is_eq, is_lt, refl, sym, ap, subst, ◌∙◌, arith}
use Rattle.std.specs.List.{AllByRecursion}
use Rattle.std.specs.List.Sorted.{IsStrictlySortedBy}
use Rattle.std.specs.Ordering.{ordering_reverse}
use Rattle.std.proofs.lemmas.Bool.Decides.{nat_tests}
use Rattle.std.proofs.lemmas.List.Elements.{recursion_from_All}
use Rattle.mega_base.specs.declared.names.GroupId.{GroupId}
use Rattle.mega_wal.specs.Same.{same_group}
use Rattle.mega_wal.specs.History.{AreDecided, group_cmp, newest_of as kept_newest}
use Rattle.mega_wal.proofs.Sames.{same_group_equal, same_group_self}
use Rattle.mega_wal.proofs.Orders.{is_group_equal, is_group_is}
use Rattle.mega_wal.proofs.Fitting.{group_order}
use Rattle.mega_rules.specs.Met.{Met, Decides}
use Rattle.mega_rules.specs.Logs.{groups_of, is_group_before, newest_of, with_group}
use Rattle.mega_rules.proofs.Groups.{has, has_with}
use Rattle.mega_voter.specs.Journal.{journal_of}
use Rattle.mega_voter.specs.Telling.{AreHonest}
use Rattle.mega_voter.proofs.Folds.{newest_is}

abbrev AllAbove : GroupId → List GroupId → Type 0
AllAbove group groups = AllByRecursion (λ other. group_cmp group other ≡ Less) groups

-- ---- one group more
above_with : (least one : GroupId) (groups : List GroupId) → group_cmp least one ≡ Less → AllAbove least groups → AllAbove least (with_group one groups)
above_with least one [] below all = (below, tt)
above_with least one (other ∷ groups) below all = go (same_group one other) (is_group_before one other) (above_with least one groups below all.1)
  where
    go : (a b : Bool) → AllAbove least (with_group one groups) → AllAbove least (cond a (other ∷ groups) (cond b (one ∷ other ∷ groups) (other ∷ with_group one groups)))
    go true b rest = all
    go false true rest = (below, all)
    go false false rest = (all.0, rest)

all_above : (one other : GroupId) (groups : List GroupId) → group_cmp one other ≡ Less → AllAbove other groups → AllAbove one groups
all_above one other [] less all = tt
all_above one other (group ∷ groups) less all = (group_order.trans one other group less all.0, all_above one other groups less all.1)

turned : (one other : GroupId) → group_cmp one other ≡ Greater → group_cmp other one ≡ Less
turned one other e = group_order.antisymm other one ∙ ap ordering_reverse e

sorted_with : (one : GroupId) (groups : List GroupId) → IsStrictlySortedBy group_cmp groups → IsStrictlySortedBy group_cmp (with_group one groups)
unfolding IsStrictlySortedBy
sorted_with one [] sorted = (tt, tt)
sorted_with one (other ∷ groups) sorted =
    subst (λ t. IsStrictlySortedBy group_cmp (cond t (other ∷ groups) (cond (is_lt (group_cmp one other)) (one ∷ other ∷ groups) (other ∷ with_group one groups)))) (is_group_is one other)
    (go (group_cmp one other) refl (sorted_with one groups sorted.1))
  where
    go : (o : Ordering) → group_cmp one other ≡ o → IsStrictlySortedBy group_cmp (with_group one groups)
        → IsStrictlySortedBy group_cmp (cond (is_eq o) (other ∷ groups) (cond (is_lt o) (one ∷ other ∷ groups) (other ∷ with_group one groups)))
    go Less e rest = ((e, all_above one other groups e sorted.0), sorted)
    go Equal e rest = sorted
    go Greater e rest = (above_with other one groups (turned one other e) sorted.0, rest)

pub groups_sorted : (met : List Met) → IsStrictlySortedBy group_cmp (groups_of met)
unfolding IsStrictlySortedBy
groups_sorted [] = tt
groups_sorted (Decides group position entry ∷ met) = sorted_with group (groups_of met) (groups_sorted met)
groups_sorted (_ ∷ met) = groups_sorted met

-- ---- which groups are there
above_zero : (a b n : ℕ) → 0 < a → true ≡ nat_lt 0 (max a b)
above_zero a b n lt = grind (arith, nat_tests)

groups_has : (met : List Met) → AreHonest met → (group : GroupId) → has group (groups_of met) ≡ nat_lt 0 (newest_of met group)
groups_has [] honest group = grind (arith, nat_tests)
groups_has (Decides other position entry ∷ met) honest group = has_with other (groups_of met) group ∙ go (same_group other group) (groups_has met honest.1 group)
  where
    go : (t : Bool) → has group (groups_of met) ≡ nat_lt 0 (newest_of met group) → (t || has group (groups_of met)) ≡ nat_lt 0 (cond t (max position (newest_of met group)) (newest_of met group))
    go true rest = above_zero position (newest_of met group) 0 honest.0
    go false rest = rest
groups_has (_ ∷ met) honest group = groups_has met honest.1 group

each_has : (newest : GroupId → ℕ) (groups : List GroupId) → AllByRecursion (λ group. 0 < newest group) groups → (group : GroupId) → has group groups ≡ true → 0 < newest group
each_has newest [] each group h = absurd (cc)
each_has newest (other ∷ groups) each group h = go (same_group other group) refl h (each_has newest groups each.1 group)
  where
    go : (t : Bool) → same_group other group ≡ t → (t || has group groups) ≡ true → (has group groups ≡ true → 0 < newest group) → 0 < newest group
    go true e h rest = subst (λ g. 0 < newest g) (same_group_equal other group e) each.0
    go false e h rest = rest h

kept_has : (met : List Met) (groups : List GroupId) → AreDecided (journal_of met) groups → (group : GroupId) → has group groups ≡ nat_lt 0 (kept_newest (journal_of met) group)
kept_has met groups decided group = go (has group groups) (nat_lt 0 (kept_newest (journal_of met) group)) refl refl
  where
    each : has group groups ≡ true → 0 < kept_newest (journal_of met) group
    each h = each_has (kept_newest (journal_of met)) groups (recursion_from_All (λ g. 0 < kept_newest (journal_of met) g) groups decided.each) group h

    above : nat_lt 0 (kept_newest (journal_of met) group) ≡ true → 0 < kept_newest (journal_of met) group
    above h = grind (arith, nat_tests)

    below : nat_lt 0 (kept_newest (journal_of met) group) ≡ false → 0 < kept_newest (journal_of met) group → ⊥
    below h lt = grind (arith, nat_tests)

    go : (a b : Bool) → has group groups ≡ a → nat_lt 0 (kept_newest (journal_of met) group) ≡ b → a ≡ b
    go true true x y = refl
    go false false x y = refl
    go true false x y = absurd (below y (each x))
    go false true x y = let h = decided.all group (above y) in absurd (cc)

-- ---- lists in order with the same groups
not_above : (least : GroupId) (groups : List GroupId) → AllAbove least groups → has least groups ≡ false
not_above least [] all = refl
not_above least (other ∷ groups) all = go (same_group other least) refl (not_above least groups all.1)
  where
    go : (t : Bool) → same_group other least ≡ t → has least groups ≡ false → (t || has least groups) ≡ false
    go true e rest = let is = ap (λ g. group_cmp least g) (same_group_equal other least e) in let self = group_order.antisymm least least in absurd (cross (group_cmp least least) (sym is ∙ all.0) self)
      where
        cross : (o : Ordering) → o ≡ Less → o ≡ ordering_reverse o → ⊥
        cross Less e h = cc
        cross Equal e h = cc
        cross Greater e h = cc
    go false e rest = rest

has_first : (group : GroupId) (groups : List GroupId) → has group (group ∷ groups) ≡ true
has_first group groups = ap (λ t. t || has group groups) (same_group_self group)

-- a group below all of a list is not in it
apart : (one other : GroupId) (groups : List GroupId) → group_cmp one other ≡ Less → AllAbove other groups → has one (other ∷ groups) ≡ true → ⊥
apart one other groups less all h = let no = not_above one (other ∷ groups) (less, all_above one other groups less all) in cc

rest_has : (first : GroupId) (xs ys : List GroupId) → AllAbove first xs → AllAbove first ys → (group : GroupId) → has group (first ∷ xs) ≡ has group (first ∷ ys) → has group xs ≡ has group ys
rest_has first xs ys above_xs above_ys group h = go (same_group first group) refl h
  where
    go : (t : Bool) → same_group first group ≡ t → (t || has group xs) ≡ (t || has group ys) → has group xs ≡ has group ys
    go true e h = let is = same_group_equal first group e in ap (λ g. has g xs) (sym is) ∙ (not_above first xs above_xs ∙ (sym (not_above first ys above_ys) ∙ ap (λ g. has g ys) is))
    go false e h = h

pub sorted_same : (xs ys : List GroupId) → IsStrictlySortedBy group_cmp xs → IsStrictlySortedBy group_cmp ys → ((group : GroupId) → has group xs ≡ has group ys) → xs ≡ ys
unfolding IsStrictlySortedBy
sorted_same [] [] a b same = refl
sorted_same [] (y ∷ ys) a b same = let h = same y in let first = has_first y ys in absurd (cc)
sorted_same (x ∷ xs) [] a b same = let h = same x in let first = has_first x xs in absurd (cc)
sorted_same (x ∷ xs) (y ∷ ys) a b same = go (group_cmp x y) refl (λ h. sorted_same xs ys a.1 b.1 h)
  where
    go : (o : Ordering) → group_cmp x y ≡ o → (((group : GroupId) → has group xs ≡ has group ys) → xs ≡ ys) → x ∷ xs ≡ y ∷ ys
    go Less e rest = absurd (apart x y ys e b.0 (sym (same x) ∙ has_first x xs))
    go Greater e rest = absurd (apart y x xs (turned x y e) a.0 (same y ∙ has_first y ys))
    go Equal e rest =
        let is : x ≡ y = is_group_equal x y (ap is_eq e) in
        λ i. is i ∷ rest (λ group. rest_has x xs ys a.0 (subst (λ g. AllAbove g ys) (sym is) b.0) group (same group ∙ ap (λ g. has group (g ∷ ys)) (sym is))) i

pub groups_is : (met : List Met) → AreHonest met → (groups : List GroupId) → AreDecided (journal_of met) groups → groups ≡ groups_of met
groups_is met honest groups decided =
    sorted_same groups (groups_of met) decided.ordered (groups_sorted met)
    (λ group. kept_has met groups decided group ∙ (ap (λ n. nat_lt 0 n) (newest_is met group) ∙ sym (groups_has met honest group)))
