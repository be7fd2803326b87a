-- Portions that are stored: of the group of a decision, and of each group.
use Rattle.std.proofs.Common.{◌≡◌, ◌≤◌, ◌+◌, ◌-◌, ◌||◌, ℕ, suc, nat_le, nat_lt, Bool, true, false, cond, List, [], ◌∷◌, length, filter, Some, None, Option, Ordering, Less, Equal, Greater, refl, sym, ap, ◌∙◌, arith}
use Rattle.std.specs.List.{AllByRecursion}
use Rattle.std.specs.List.Sorted.{IsStrictlySortedBy}
use Rattle.std.specs.Ordering.{ordering_reverse}
use Rattle.std.proofs.lemmas.Bool.Decides.{nat_tests}
use Rattle.std.proofs.lemmas.List.{length-append}
use Rattle.mega_base.specs.declared.names.GroupId.{GroupId}
use Rattle.mega_disk.specs.VersionMaps.{Versions}
use Rattle.mega_entry.specs.declared.content.Content.{Content}
use Rattle.mega_wal.specs.History.{group_cmp}
use Rattle.mega_wal.specs.Same.{same_group}
use Rattle.mega_wal.proofs.Fitting.{group_order}
use Rattle.mega_wal.proofs.Sames.{same_group_equal, same_group_self}
use Rattle.mega_replica.specs.Applying.{after_portion, applied, writes_of}
use Rattle.mega_rules.specs.Met.{Met}
use Rattle.mega_rules.specs.Logs.{groups_of, log_of}
use Rattle.mega_rules.specs.Members.{has_rows}
use Rattle.mega_rules.specs.Operations.{Setting}
use Rattle.mega_rules.specs.Steps.{Decision, portion_of, stored_after}
use Rattle.mega_step_work.proofs.of_voter.Grouped.{groups_sorted}
use Rattle.mega_replica.specs.declared.progress.Progress.{Progress}
use Rattle.mega_replica.specs.Following.{Follows}
use Rattle.mega_replica.specs.Stored.{stored_with}
use Rattle.mega_replica.proofs.Joined.{stored_total}
use Rattle.mega_step_choices.specs.Behind.{is_behind}
use Rattle.mega_step_parts.specs.Touching.{behind}
use Rattle.mega_rules.proofs.Groups.{has, no_log}

-- a node with rows stores a portion
pub portion_is : (s : Setting) (met : List Met) (stored : GroupId → ℕ) (most : ℕ) (group : GroupId) → has_rows s.cluster s.me ≡ true → s.cluster.apply ≡ most → after_portion most (log_of met group) (stored group) ≡ portion_of s met stored group
portion_is s met stored most group rows apply =
    ap (λ n. after_portion n (log_of met group) (stored group)) (sym apply) ∙ ap (λ t. cond t (after_portion s.cluster.apply (log_of met group) (stored group)) 0) (sym rows)

pub stored_after_is : (s : Setting) (met : List Met) (stored : GroupId → ℕ) (most : ℕ) (d : Decision) → has_rows s.cluster s.me ≡ true → s.cluster.apply ≡ most
    → (other : GroupId) → stored_with stored d.group (after_portion most (log_of met d.group) (stored d.group)) other ≡ stored_after s met stored (Some d) other
stored_after_is s met stored most d rows apply other = go (same_group d.group other) refl
  where
    go : (t : Bool) → same_group d.group other ≡ t → cond t (after_portion most (log_of met d.group) (stored d.group)) (stored other) ≡ cond t (portion_of s met stored other) (stored other)
    go true e = ap (λ group. after_portion most (log_of met group) (stored group)) (same_group_equal d.group other e) ∙ portion_is s met stored most other rows apply
    go false e = refl

-- ---- a portion of each group

abbrev AllAbove : GroupId → List GroupId → Type 0
AllAbove group groups = AllByRecursion (λ other. group_cmp group other ≡ Less) groups

not_above : (least : GroupId) (groups : List GroupId) → AllAbove least groups → has least groups ≡ false
not_above least [] all = refl
not_above least (other ∷ groups) all = go (same_group other least) refl (not_above least groups all.1)
  where
    go : (t : Bool) → same_group other least ≡ t → has least groups ≡ false → (t || has least groups) ≡ false
    go true e rest = let is = ap (λ g. group_cmp least g) (same_group_equal other least e) in let self = group_order.antisymm least least in absurd (cross (group_cmp least least) (sym is ∙ all.0) self)
      where
        cross : (o : Ordering) → o ≡ Less → o ≡ ordering_reverse o → ⊥
        cross Less e h = cc
        cross Equal e h = cc
        cross Greater e h = cc
    go false e rest = rest

-- those that are left are as they were, and of all others a portion is stored, or all was
pub record StoredSo (version : Versions) (progress : GroupId → Progress) (most : ℕ) (met : List Met) (stored : GroupId → ℕ) (left : List GroupId) : Type 0 where
  pub now : GroupId → ℕ
  pub follows : Follows version progress (log_of met) now
  pub sorted : IsStrictlySortedBy group_cmp left
  pub each : (group : GroupId) → now group ≡ cond (has group left) (stored group) (after_portion most (log_of met group) (stored group))

nothing_more : (most : ℕ) (log : List Content) (count : ℕ) → count ≤ length (writes_of log) → log ≡ [] → count ≡ after_portion most log count
nothing_more most log count few empty = let none : length (writes_of log) ≡ 0 = ap (λ (xs : List Content). length (writes_of xs)) empty in omega (arith, few, none)

-- of a group of which all is applied that is decided all is stored
is_le : (a b : ℕ) → nat_le a b ≡ true → a ≤ b
is_le a b is = grind (arith, nat_tests)

not_less : (a b : ℕ) → nat_lt a b ≡ false → b ≤ a
not_less a b is = grind (arith, nat_tests)

all_stored : (log : List Content) (count : ℕ) → length log ≤ applied log count → length (writes_of log) ≤ count
all_stored [] count le = let none : 0 ≤ count = omega arith in none
all_stored (entry ∷ log) count le = by (nat_le (length entry.writes) count) refl le (all_stored log (count - length entry.writes))
  where
    by : (t : Bool) → nat_le (length entry.writes) count ≡ t → suc (length log) ≤ cond t (1 + applied log (count - length entry.writes)) 0
        → (length log ≤ applied log (count - length entry.writes) → length (writes_of log) ≤ count - length entry.writes) → length (writes_of (entry ∷ log)) ≤ count
    by true e most rest =
        let low = is_le (length entry.writes) count e in
        let some : suc (length log) ≤ 1 + applied log (count - length entry.writes) = most in
        let left = rest (omega (arith, some)) in
        let all = length-append entry.writes (writes_of log) in
        omega (arith, low, left, all)
    by false e most rest = absurd (let none : suc (length log) ≤ 0 = most in omega (arith, none))

complete : (most : ℕ) (log : List Content) (count : ℕ) → count ≤ length (writes_of log) → nat_lt (applied log count) (length log) ≡ false → count ≡ after_portion most log count
complete most log count few whole = let all = all_stored log count (not_less (applied log count) (length log) whole) in omega (arith, few, all)

-- ---- some of the groups in order are in order

kept_there : (test : GroupId → Bool) (group : GroupId) (groups : List GroupId) → has group groups ≡ true → test group ≡ true → has group (filter test groups) ≡ true
kept_there test group [] there is = there
kept_there test group (other ∷ groups) there is = go (same_group other group) (test other) refl refl there (kept_there test group groups)
  where
    go : (a b : Bool) → same_group other group ≡ a → test other ≡ b → (a || has group groups) ≡ true → (has group groups ≡ true → test group ≡ true → has group (filter test groups) ≡ true)
        → has group (cond b (other ∷ filter test groups) (filter test groups)) ≡ true
    go true true e f h rest = ap (λ t. t || has group (filter test groups)) e
    go true false e f h rest = absurd (let never : true ≡ false = sym is ∙ (ap test (sym (same_group_equal other group e)) ∙ f) in cc)
    go false true e f h rest = ap (λ t. t || has group (filter test groups)) e ∙ rest h is
    go false false e f h rest = rest h is

above_kept : (test : GroupId → Bool) (least : GroupId) (groups : List GroupId) → AllAbove least groups → AllAbove least (filter test groups)
above_kept test least [] all = all
above_kept test least (other ∷ groups) all = go (test other) (above_kept test least groups all.1)
  where
    go : (t : Bool) → AllAbove least (filter test groups) → AllAbove least (cond t (other ∷ filter test groups) (filter test groups))
    go true rest = (all.0, rest)
    go false rest = rest

one_sorted : (t : Bool) (group : GroupId) (rest : List GroupId) → AllAbove group rest → IsStrictlySortedBy group_cmp rest → IsStrictlySortedBy group_cmp (cond t (group ∷ rest) rest)
unfolding IsStrictlySortedBy
one_sorted true group rest above sorted = (above, sorted)
one_sorted false group rest above sorted = sorted

sorted_kept : (test : GroupId → Bool) (groups : List GroupId) → IsStrictlySortedBy group_cmp groups → IsStrictlySortedBy group_cmp (filter test groups)
unfolding IsStrictlySortedBy
sorted_kept test [] sorted = sorted
sorted_kept test (group ∷ groups) sorted = one_sorted (test group) group (filter test groups) (above_kept test group groups sorted.0) (sorted_kept test groups sorted.1)

pub stored_first : (version : Versions) (progress : GroupId → Progress) (most : ℕ) (met : List Met) (stored : GroupId → ℕ) → Follows version progress (log_of met) stored → StoredSo version progress most met stored (behind true met stored)
stored_first version progress most met stored follows =
    record { now = stored; follows = follows; sorted = sorted_kept (is_behind met stored) (groups_of met) (groups_sorted met); each = λ group. by group (has group (behind true met stored)) refl }
  where
    left : (group : GroupId) → has group (behind true met stored) ≡ false → (a b : Bool) → has group (groups_of met) ≡ a → is_behind met stored group ≡ b → stored group ≡ after_portion most (log_of met group) (stored group)
    left group e false b f k = nothing_more most (log_of met group) (stored group) (stored_total version progress (log_of met) stored group follows) (no_log met group f)
    left group e true false f k = complete most (log_of met group) (stored group) (stored_total version progress (log_of met) stored group follows) k
    left group e true true f k = absurd (let never : true ≡ false = sym (kept_there (is_behind met stored) group (groups_of met) f k) ∙ e in cc)

    by : (group : GroupId) (t : Bool) → has group (behind true met stored) ≡ t → stored group ≡ cond t (stored group) (after_portion most (log_of met group) (stored group))
    by group true e = refl
    by group false e = left group e (has group (groups_of met)) (is_behind met stored group) refl refl

next_each : (most : ℕ) (met : List Met) (stored now : GroupId → ℕ) (one : GroupId) (left : List GroupId) → has one left ≡ false
    → ((group : GroupId) → now group ≡ cond (has group (one ∷ left)) (stored group) (after_portion most (log_of met group) (stored group)))
    → (group : GroupId) → stored_with now one (after_portion most (log_of met one) (now one)) group ≡ cond (has group left) (stored group) (after_portion most (log_of met group) (stored group))
next_each most met stored now one left alone each group = go (same_group one group) (has group left) refl refl (each group)
  where
    here : now one ≡ stored one
    here = each one ∙ ap (λ t. cond (t || has one left) (stored one) (after_portion most (log_of met one) (stored one))) (same_group_self one)

    go : (a b : Bool) → same_group one group ≡ a → has group left ≡ b → now group ≡ cond (a || b) (stored group) (after_portion most (log_of met group) (stored group))
        → cond a (after_portion most (log_of met one) (now one)) (now group) ≡ cond b (stored group) (after_portion most (log_of met group) (stored group))
    go true true e f is = absurd (cross (sym f ∙ (ap (λ g. has g left) (sym (same_group_equal one group e)) ∙ alone)))
      where
        cross : true ≡ false → ⊥
        cross h = cc
    go true false e f is = ap (after_portion most (log_of met one)) here ∙ ap (λ g. after_portion most (log_of met g) (stored g)) (same_group_equal one group e)
    go false true e f is = is
    go false false e f is = is

pub stored_next : (version : Versions) (progress : GroupId → Progress) (version2 : Versions) (progress2 : GroupId → Progress) (most : ℕ) (met : List Met) (stored : GroupId → ℕ) (one : GroupId) (left : List GroupId)
    → ((counts : GroupId → ℕ) → Follows version progress (log_of met) counts → Follows version2 progress2 (log_of met) (stored_with counts one (after_portion most (log_of met one) (counts one))))
    → StoredSo version progress most met stored (one ∷ left) → StoredSo version2 progress2 most met stored left
unfolding IsStrictlySortedBy
stored_next version progress version2 progress2 most met stored one left stores so = record {
  now = stored_with so.now one (after_portion most (log_of met one) (so.now one));
  follows = stores so.now so.follows;
  sorted = so.sorted.1;
  each = next_each most met stored so.now one left (not_above one left so.sorted.0) so.each;
}

-- ---- portions of a node without rows

pub portion_bare : (s : Setting) (met : List Met) (stored : GroupId → ℕ) (group : GroupId) → has_rows s.cluster s.me ≡ false → portion_of s met stored group ≡ 0
portion_bare s met stored group none = ap (λ (t : Bool). cond t (after_portion s.cluster.apply (log_of met group) (stored group)) 0) none

pub stored_bare : (s : Setting) (met : List Met) (stored : GroupId → ℕ) (d : Option Decision) → has_rows s.cluster s.me ≡ false → ((group : GroupId) → stored group ≡ 0) → (group : GroupId) → stored_after s met stored d group ≡ 0
stored_bare s met stored None none bare group = bare group
stored_bare s met stored (Some d) none bare group = by (same_group d.group group)
  where
    by : (t : Bool) → cond t (portion_of s met stored group) (stored group) ≡ 0
    by true = portion_bare s met stored group none
    by false = bare group
