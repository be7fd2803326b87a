-- Groups, each once and in order; and what is noted of those of which more is applied, where no other groups change.
use Rattle.std.proofs.Common.{◌≡◌, ℕ, ◌||◌, ◌++◌, Bool, true, false, cond, nat_lt, List, [], ◌∷◌, map, flat_map, Option, Some, None, refl, sym, ap, ◌∙◌, arith}
use Rattle.std.proofs.lemmas.Bool.Decides.{nat_tests}
use Rattle.mega_base.specs.declared.names.GroupId.{GroupId}
use Rattle.mega_entry.specs.declared.content.Content.{Content}
use Rattle.mega_wal.specs.Same.{same_group}
use Rattle.mega_wal.proofs.Sames.{same_group_equal}
use Rattle.mega_replica.specs.Applying.{applied}
use Rattle.mega_rules.specs.Met.{Met, Applies, Decides}
use Rattle.mega_rules.specs.Logs.{groups_of, is_group_before, with_group}
use Rattle.mega_rules.specs.Steps.{Decision, applied_at, apply_note, decision_note, onto}
use Rattle.mega_rules.proofs.Groups.{has, has_with, no_log}
use Rattle.mega_step_work.proofs.of_voter.Grouped.{groups_sorted, sorted_same}
use Rattle.mega_step_parts.specs.Positions.{before_at, note_since}

pub none_applied : (met : List Met) (stored : GroupId → ℕ) (group : GroupId) → has group (groups_of met) ≡ false → applied_at met stored group ≡ 0
none_applied met stored group none = ap (λ (log : List Content). applied log (stored group)) (no_log met group none)

-- ---- groups of two histories, of which one is put onto the other

or_joined : (x y z : Bool) → (x || (y || z)) ≡ ((x || y) || z)
or_joined true y z = refl
or_joined false y z = refl

or_turned : (x y : Bool) → (x || y) ≡ (y || x)
or_turned true true = refl
or_turned true false = refl
or_turned false true = refl
or_turned false false = refl

has_both : (more met : List Met) (group : GroupId) → has group (groups_of (more ++ met)) ≡ (has group (groups_of more) || has group (groups_of met))
has_both [] met group = refl
has_both (Decides one position entry ∷ more) met group =
    has_with one (groups_of (more ++ met)) group
    ∙ (ap (λ t. same_group one group || t) (has_both more met group)
    ∙ (or_joined (same_group one group) (has group (groups_of more)) (has group (groups_of met))
    ∙ ap (λ t. t || has group (groups_of met)) (sym (has_with one (groups_of more) group))))
has_both (_ ∷ more) met group = has_both more met group

turned : (more met : List Met) → groups_of (met ++ more) ≡ groups_of (more ++ met)
turned more met =
    sorted_same (groups_of (met ++ more)) (groups_of (more ++ met)) (groups_sorted (met ++ more)) (groups_sorted (more ++ met))
    (λ group. has_both met more group ∙ (or_turned (has group (groups_of met)) (has group (groups_of more)) ∙ sym (has_both more met group)))

-- a group that is there already
with_there : (one : GroupId) (position : ℕ) (entry : Content) (met : List Met) → has one (groups_of met) ≡ true → with_group one (groups_of met) ≡ groups_of met
with_there one position entry met there =
    sorted_same (groups_of (Decides one position entry ∷ met)) (groups_of met) (groups_sorted (Decides one position entry ∷ met)) (groups_sorted met)
    (λ group. has_with one (groups_of met) group ∙ go group (same_group one group) refl)
  where
    go : (group : GroupId) (t : Bool) → same_group one group ≡ t → (t || has group (groups_of met)) ≡ has group (groups_of met)
    go group true e = sym (ap (λ g. has g (groups_of met)) (sym (same_group_equal one group e)) ∙ there)
    go group false e = refl

-- a group of which nothing is said
with_none : (said : GroupId → List Met) (one : GroupId) (groups : List GroupId) → said one ≡ [] → flat_map said (with_group one groups) ≡ flat_map said groups
with_none said one [] none = ap (λ (notes : List Met). notes ++ []) none
with_none said one (other ∷ groups) none = go (same_group one other) (is_group_before one other) (with_none said one groups none)
  where
    go : (a b : Bool) → flat_map said (with_group one groups) ≡ flat_map said groups
        → flat_map said (cond a (other ∷ groups) (cond b (one ∷ other ∷ groups) (other ∷ with_group one groups))) ≡ said other ++ flat_map said groups
    go true b rest = refl
    go false true rest = ap (λ (notes : List Met). notes ++ (said other ++ flat_map said groups)) none
    go false false rest = ap (λ (notes : List Met). said other ++ notes) rest

or_none : (x y : Bool) → (x || y) ≡ false → y ≡ false
or_none true y h = absurd (cc)
or_none false y h = h

-- more is said of no group that is put onto these
added : (said : GroupId → List Met) (more met : List Met) → ((group : GroupId) → has group (groups_of met) ≡ false → said group ≡ []) → flat_map said (groups_of (more ++ met)) ≡ flat_map said (groups_of met)
added said [] met none = refl
added said (Decides one position entry ∷ more) met none = go (has one (groups_of (more ++ met))) refl ∙ added said more met none
  where
    go : (t : Bool) → has one (groups_of (more ++ met)) ≡ t → flat_map said (with_group one (groups_of (more ++ met))) ≡ flat_map said (groups_of (more ++ met))
    go true e = ap (flat_map said) (with_there one position entry (more ++ met) e)
    go false e = with_none said one (groups_of (more ++ met)) (none one (or_none (has one (groups_of more)) (has one (groups_of met)) (sym (has_both more met one) ∙ e)))
added said (_ ∷ more) met none = added said more met none

-- what is said of the groups of one history is said of those of another, where nothing is of groups that either lacks
said_same : (said : GroupId → List Met) (one met : List Met) → ((group : GroupId) → has group (groups_of one) ≡ false → said group ≡ []) → ((group : GroupId) → has group (groups_of met) ≡ false → said group ≡ [])
    → flat_map said (groups_of one) ≡ flat_map said (groups_of met)
said_same said one met none other = sym (added said met one none) ∙ (ap (flat_map said) (turned one met) ∙ added said one met other)

-- ---- what is noted

not_below_self : (n : ℕ) → nat_lt n n ≡ false
not_below_self n = grind (arith, nat_tests)

not_below_none : (n : ℕ) → nat_lt n 0 ≡ false
not_below_none n = grind (arith, nat_tests)

pub since_is : (was : List Met) (was_stored : GroupId → ℕ) (met : List Met) (stored : GroupId → ℕ) (groups : List GroupId)
    → flat_map (note_since met stored) (map (before_at was was_stored) groups) ≡ flat_map (apply_note was was_stored met stored) groups
since_is was was_stored met stored [] = refl
since_is was was_stored met stored (group ∷ groups) = ap (λ (notes : List Met). apply_note was was_stored met stored group ++ notes) (since_is was was_stored met stored groups)

-- all is noted that is applied since, where it is of these groups alone
pub all_noted : (was : List Met) (was_stored : GroupId → ℕ) (met : List Met) (stored : GroupId → ℕ) (one : List Met)
    → ((group : GroupId) → has group (groups_of one) ≡ false → applied_at met stored group ≡ applied_at was was_stored group)
    → flat_map (note_since met stored) (map (before_at was was_stored) (groups_of one)) ≡ flat_map (apply_note was was_stored met stored) (groups_of met)
all_noted was was_stored met stored one same = since_is was was_stored met stored (groups_of one) ∙ said_same (apply_note was was_stored met stored) one met still absent
  where
    still : (group : GroupId) → has group (groups_of one) ≡ false → apply_note was was_stored met stored group ≡ []
    still group none =
        ap (λ n. cond (nat_lt (applied_at was was_stored group) n) (Applies group (applied_at met stored group) ∷ []) []) (same group none)
        ∙ ap (λ t. cond t (Applies group (applied_at met stored group) ∷ []) []) (not_below_self (applied_at was was_stored group))

    absent : (group : GroupId) → has group (groups_of met) ≡ false → apply_note was was_stored met stored group ≡ []
    absent group none =
        ap (λ n. cond (nat_lt (applied_at was was_stored group) n) (Applies group (applied_at met stored group) ∷ []) []) (none_applied met stored group none)
        ∙ ap (λ t. cond t (Applies group (applied_at met stored group) ∷ []) []) (not_below_none (applied_at was was_stored group))

-- the group of a decision alone
pub groups_told : (d : Option Decision) → groups_of (onto (decision_note d) []) ≡ groups_of (decision_note d)
groups_told None = refl
groups_told (Some d) = refl
