-- The groups with a decided position, among the entries of the map.
use Rattle.std.proofs.Common.{◌≡◌, ℕ, suc, ◌<◌, ◌||◌, Bool, true, false, cond, List, [], ◌∷◌, length, get_or, Some, None, refl, sym, ap, subst, ◌∙◌, arith, nat_lt}
use Rattle.std.specs.Prelude.{All}
use Rattle.std.specs.List.{filter_map, cons_option, AllByRecursion, list_any}
use Rattle.std.specs.declared.cmp.Ordering.TheVariants.{Less}
use Rattle.std.specs.List.Sorted.{IsStrictlySortedBy}
use Rattle.std.specs.Map.{keys_of, lookup}
use Rattle.std.specs.BTreeMap.{is_at}
use Rattle.std.proofs.lemmas.Bool.Decides.{nat_tests}
use Rattle.std.proofs.lemmas.List.Elements.{All-cons, All-nil}
use Rattle.mega_base.specs.declared.names.GroupId.{GroupId}
use Rattle.mega_wal.specs.declared.item.JournalItem.{JournalItem}
use Rattle.mega_wal.specs.declared.groups.Log.{Log}
use Rattle.mega_wal.specs.declared.groups.Marks.{Marks}
use Rattle.mega_wal.specs.declared.kept.Kept.{Kept}
use Rattle.mega_acceptor.specs.of_entry.Same.{same_group}
use Rattle.mega_wal.specs.History.{AreDecided, group_cmp, newest_of}
use Rattle.mega_wal.specs.Kept.{Represents, decided_group, decided_groups, marks_in}
use Rattle.mega_acceptor.proofs.of_entry.Sames.{same_group_self}
use Rattle.mega_wal.proofs.Orders.{is_group_equal}
use Rattle.mega_wal.proofs.Fitting.{found_at, group_order}

abbrev Entry : Type 0
Entry = GroupId × Log

from_index : {A : Type 0} (P : A → Type 0) (xs : List A) → ((i : ℕ) (d : A) → i < length xs → P (get_or xs i d)) → AllByRecursion P xs
from_index P [] each = tt
from_index P (x ∷ xs) each = (each 0 x (omega arith), from_index P xs (λ i d lt. each (suc i) d (omega arith)))

abbrev kept_groups : List Entry → List GroupId
kept_groups es = filter_map decided_group es

kept_below : (Q : GroupId → Type 0) (es : List Entry) → AllByRecursion Q (keys_of es) → AllByRecursion Q (kept_groups es)
kept_below Q [] all = tt
kept_below Q (e ∷ es) all = go (nat_lt 0 e.1.marks.newest) (kept_below Q es all.1)
  where
    go : (test : Bool) → AllByRecursion Q (kept_groups es) → AllByRecursion Q (cons_option (cond test (Some e.0) None) (kept_groups es))
    go true rest = (all.0, rest)
    go false rest = rest

kept_sorted : (es : List Entry) → IsStrictlySortedBy group_cmp (keys_of es) → IsStrictlySortedBy group_cmp (kept_groups es)
unfolding IsStrictlySortedBy
kept_sorted [] sorted = tt
kept_sorted (e ∷ es) sorted = go (nat_lt 0 e.1.marks.newest) (kept_sorted es sorted.1)
  where
    go : (test : Bool) → IsStrictlySortedBy group_cmp (kept_groups es) → IsStrictlySortedBy group_cmp (cons_option (cond test (Some e.0) None) (kept_groups es))
    go true rest = (kept_below (λ y. group_cmp e.0 y ≡ Less) es sorted.0, rest)
    go false rest = rest

above_zero : (n : ℕ) → nat_lt 0 n ≡ true → 0 < n
above_zero n h = grind (arith, nat_tests)

is_above : (n : ℕ) → 0 < n → nat_lt 0 n ≡ true
is_above n h = grind (arith, nat_tests)

module _ (newest : GroupId → ℕ) where
  kept_each : (es : List Entry) → AllByRecursion (λ (e : Entry). e.1.marks.newest ≡ newest e.0) es → All (λ g. 0 < newest g) (kept_groups es)
  kept_each [] all = All-nil (λ g. 0 < newest g)
  kept_each (e ∷ es) all = go (nat_lt 0 e.1.marks.newest) refl (kept_each es all.1)
    where
      go : (test : Bool) → nat_lt 0 e.1.marks.newest ≡ test → All (λ g. 0 < newest g) (kept_groups es) → All (λ g. 0 < newest g) (cons_option (cond test (Some e.0) None) (kept_groups es))
      go true t rest = All-cons (λ g. 0 < newest g) e.0 (kept_groups es) (subst (λ n. 0 < n) all.0 (above_zero e.1.marks.newest t)) rest
      go false t rest = rest

kept_all : (group : GroupId) (es : List Entry) → 0 < (marks_in (lookup (is_at (group_cmp group)) es)).newest → list_any (λ other. same_group other group) (kept_groups es) ≡ true
kept_all group [] h = absurd (omega arith)
kept_all group (e ∷ es) h = go (is_at (group_cmp group) e.0) (nat_lt 0 e.1.marks.newest) refl refl (kept_all group es) h
  where
    later : (kept : Bool) → list_any (λ other. same_group other group) (kept_groups es) ≡ true → list_any (λ other. same_group other group) (cons_option (cond kept (Some e.0) None) (kept_groups es)) ≡ true
    later true r = or_right (same_group e.0 group) (list_any (λ other. same_group other group) (kept_groups es)) r
      where
        or_right : (a b : Bool) → b ≡ true → (a || b) ≡ true
        or_right true b h = refl
        or_right false b h = h
    later false r = r

    go : (here kept : Bool) → is_at (group_cmp group) e.0 ≡ here → nat_lt 0 e.1.marks.newest ≡ kept
        → (0 < (marks_in (lookup (is_at (group_cmp group)) es)).newest → list_any (λ other. same_group other group) (kept_groups es) ≡ true)
        → 0 < (marks_in (cond here (Some e.1) (lookup (is_at (group_cmp group)) es))).newest → list_any (λ other. same_group other group) (cons_option (cond kept (Some e.0) None) (kept_groups es)) ≡ true
    go false kept s t rest h = later kept (rest h)
    go true false s t rest h = let k = is_above e.1.marks.newest h in cc
    go true true s t rest h = ap (λ b. b || list_any (λ other. same_group other group) (kept_groups es)) (ap (same_group e.0) (is_group_equal group e.0 s) ∙ same_group_self e.0)

pub are_decided : (kept : Kept) (items : List JournalItem) (groups : List GroupId) → groups ≡ decided_groups kept.groups → IsStrictlySortedBy group_cmp (keys_of kept.groups.entries) → Represents kept items → AreDecided items groups
are_decided kept items groups is sorted rep = subst (AreDecided items) (sym is) (record {
  ordered = kept_sorted kept.groups.entries sorted;
  each = kept_each (newest_of items) kept.groups.entries (from_index (λ (e : Entry). e.1.marks.newest ≡ newest_of items e.0) kept.groups.entries (λ i d lt.
      let e : Entry = get_or kept.groups.entries i d in
      sym (ap (λ o. (marks_in o).newest) (found_at group_order kept.groups sorted i d lt)) ∙ ap (λ (m : Marks). m.newest) (rep.groups.marks e.0)));
  all = λ group h. kept_all group kept.groups.entries (subst (λ n. 0 < n) (sym (ap (λ (m : Marks). m.newest) (rep.groups.marks group))) h);
})
