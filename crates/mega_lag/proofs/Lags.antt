-- The set of groups that may lag: what a change of one does, and that those behind are among them.
use Rattle.std.proofs.Common.{◌≡◌, ◌||◌, ◌&&◌, ℕ, nat_lt, Bool, true, false, cond, List, [], ◌∷◌, length, filter, refl, sym, ap, ◌∙◌, arith}
use Rattle.std.specs.BTreeSet.{BTreeSet, IsOrdered, keys}
use Rattle.std.specs.List.{list_any}
use Rattle.std.proofs.lemmas.Bool.Decides.{nat_tests}
use Rattle.std.proofs.lemmas.List.Kept.{IsStrictlySortedBy-filter}
use Rattle.mega_base.specs.declared.names.GroupId.{GroupId}
use Rattle.mega_entry.specs.declared.content.Content.{Content}
use Rattle.mega_wal.specs.History.{group_cmp}
use Rattle.mega_wal.specs.Kept.{is_group}
use Rattle.mega_wal.specs.Same.{same_group}
use Rattle.mega_wal.proofs.Orders.{is_group_equal, is_group_is}
use Rattle.mega_wal.proofs.Sames.{same_group_equal, same_group_self}
use Rattle.mega_replica.specs.Applying.{applied}
use Rattle.mega_rules.specs.Logs.{groups_of}
use Rattle.mega_rules.specs.Met.{Met}
use Rattle.mega_step_parts.specs.Behind.{is_behind}
use Rattle.mega_rules.proofs.Groups.{has, no_log}
use Rattle.mega_step_parts.proofs.of_voter.Grouped.{groups_sorted, sorted_same}
use Rattle.mega_lag.specs.Lagging.{lags}

-- ---- one group of the set

pub put_in : (test : GroupId → Bool) (group other : GroupId) (old new : Bool) → test group ≡ true → new ≡ (is_group group other || old) → new ≡ cond (is_group group other) (test other) old
put_in test group other old new is made = by (is_group group other) refl made
  where
    by : (t : Bool) → is_group group other ≡ t → new ≡ (t || old) → new ≡ cond t (test other) old
    by true e made = made ∙ (sym is ∙ ap test (is_group_equal group other e))
    by false e made = made

pub took_out : (test : GroupId → Bool) (group other : GroupId) (old new : Bool) → test group ≡ false → new ≡ cond (is_group group other) false old → new ≡ cond (is_group group other) (test other) old
took_out test group other old new is made = by (is_group group other) refl made
  where
    by : (t : Bool) → is_group group other ≡ t → new ≡ cond t false old → new ≡ cond t (test other) old
    by true e made = made ∙ (sym is ∙ ap test (is_group_equal group other e))
    by false e made = made

-- ---- those that are behind are among the set's

has_lags : (groups : List GroupId) (group : GroupId) → list_any (λ other. is_group group other) groups ≡ has group groups
has_lags [] group = refl
has_lags (other ∷ groups) group = λ i. (turned (same_group group other) (same_group other group) refl refl) i || has_lags groups group i
  where
    turned : (a b : Bool) → same_group group other ≡ a → same_group other group ≡ b → is_group group other ≡ same_group other group
    turned true true e f = is_group_is group other ∙ (e ∙ sym f)
    turned false false e f = is_group_is group other ∙ (e ∙ sym f)
    turned true false e f = absurd (let same : same_group other group ≡ true = ap (λ g. same_group g group) (sym (same_group_equal group other e)) ∙ same_group_self group in cc)
    turned false true e f = absurd (let same : same_group group other ≡ true = ap (λ g. same_group group g) (same_group_equal other group f) ∙ same_group_self group in cc)

has_filter : (test : GroupId → Bool) (groups : List GroupId) (group : GroupId) → has group (filter test groups) ≡ (test group && has group groups)
has_filter test [] group = none (test group)
  where
    none : (t : Bool) → false ≡ (t && false)
    none true = refl
    none false = refl
has_filter test (other ∷ groups) group = by (same_group other group) (test other) (test group) refl refl refl (has_filter test groups group)
  where
    by : (a b d : Bool) → same_group other group ≡ a → test other ≡ b → test group ≡ d → has group (filter test groups) ≡ (test group && has group groups)
        → has group (cond b (other ∷ filter test groups) (filter test groups)) ≡ (d && (a || has group groups))
    by true true true e f k rest = ap (λ t. t || has group (filter test groups)) e
    by true false false e f k rest = rest ∙ ap (λ t. t && has group groups) k
    by true true false e f k rest = absurd (let same : test other ≡ test group = ap test (same_group_equal other group e) in cc)
    by true false true e f k rest = absurd (let same : test other ≡ test group = ap test (same_group_equal other group e) in cc)
    by false true d e f k rest = ap (λ t. t || has group (filter test groups)) e ∙ (rest ∙ ap (λ t. t && has group groups) k)
    by false false d e f k rest = rest ∙ ap (λ t. t && has group groups) k

not_below_none : (n : ℕ) → nat_lt n 0 ≡ false
not_below_none n = grind (arith, nat_tests)

-- of a group with nothing decided all is applied
whole_none : (met : List Met) (stored : GroupId → ℕ) (group : GroupId) → has group (groups_of met) ≡ false → is_behind met stored group ≡ false
whole_none met stored group none = ap (λ (log : List Content). nat_lt (applied log (stored group)) (length log)) (no_log met group none) ∙ not_below_none 0

pub behind_is : (lagging : BTreeSet GroupId) (met : List Met) (stored : GroupId → ℕ) → IsOrdered group_cmp lagging → ((group : GroupId) → lags lagging group ≡ false → is_behind met stored group ≡ false)
    → filter (is_behind met stored) (keys lagging) ≡ filter (is_behind met stored) (groups_of met)
behind_is lagging met stored ordered whole =
    sorted_same (filter test (keys lagging)) (filter test (groups_of met))
    (IsStrictlySortedBy-filter group_cmp test (keys lagging) ordered) (IsStrictlySortedBy-filter group_cmp test (groups_of met) (groups_sorted met))
    (λ group. has_filter test (keys lagging) group ∙ (by group (test group) (has group (keys lagging)) (has group (groups_of met)) refl refl refl ∙ sym (has_filter test (groups_of met) group)))
  where
    test : GroupId → Bool
    test = is_behind met stored

    by : (group : GroupId) (t a b : Bool) → test group ≡ t → has group (keys lagging) ≡ a → has group (groups_of met) ≡ b → (t && a) ≡ (t && b)
    by group false a b e f k = refl
    by group true true true e f k = refl
    by group true false false e f k = refl
    by group true false true e f k = absurd (let all = whole group (has_lags (keys lagging) group ∙ f) in cc)
    by group true true false e f k = absurd (let all = whole_none met stored group k in cc)
