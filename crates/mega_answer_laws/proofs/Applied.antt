-- How far a tape shows that a node applied a group is how far it did: more is applied as more is met and stored, and what rises is noted.
use Rattle.std.proofs.Common.{◌≡◌, ℕ, zero, suc, ◌+◌, ◌-◌, ◌==◌, ◌&&◌, ◌||◌, ◌≤◌, nat_le, nat_lt, Bool, true, false, cond, List, [], ◌∷◌, ◌++◌, length, flat_map, None, refl, sym, ap, ◌∙◌, subst, arith}
use Rattle.std.proofs.lemmas.Bool.Decides.{nat_tests}
use Rattle.std.proofs.lemmas.List.{length-append}
use Rattle.std.specs.List.{list_any}
use Rattle.std.proofs.lemmas.Bool.{or_parts}
use Rattle.mega_base.specs.declared.names.GroupId.{GroupId}
use Rattle.mega_entry.specs.declared.content.Content.{Content}
use Rattle.mega_cause_laws.specs.of_run_laws.of_tape_laws.of_promises.of_rules.of_replica.Applying.{applied, writes_of}
use Rattle.mega_cause_laws.specs.of_run_laws.of_tape_laws.of_promises.of_rules.Logs.{decided, decided_from, first_of, groups_of, is_group_before, log_of, prefix_of, then_more, with_group}
use Rattle.mega_cause_laws.specs.of_run_laws.of_tape_laws.of_promises.of_rules.Members.{has_rows}
use Rattle.mega_cause_laws.specs.of_run_laws.of_tape_laws.of_promises.of_rules.Met.{Met, Applies, Decides}
use Rattle.mega_cause_laws.specs.of_run_laws.of_tape_laws.of_promises.of_rules.Operations.{Setting}
use Rattle.mega_cause_laws.specs.of_run_laws.of_tape_laws.of_promises.of_rules.Steps.{applied_at, apply_notes, start_notes}
use Rattle.mega_wal.specs.Same.{same_group}
use Rattle.mega_wal.proofs.Sames.{same_group_equal}
use Rattle.mega_node_laws.proofs.Applied.{applied_more}
use Rattle.mega_answer_laws.proofs.Views.{View, after, after_append}

-- ---- a longer log, of which as much or more is stored

at_least : (t : Bool) (a b : ℕ) → a ≤ b → cond t (1 + a) 0 ≤ cond t (1 + b) 0
at_least true a b le = omega (arith, le)
at_least false a b le = omega arith

applied_longer : (log more : List Content) (stored : ℕ) → applied log stored ≤ applied (log ++ more) stored
applied_longer [] more stored = let none : 0 ≤ applied more stored = omega arith in none
applied_longer (entry ∷ log) more stored = at_least (nat_le (length entry.writes) stored) _ _ (applied_longer log more (stored - length entry.writes))

pub applied_rises : (log later more : List Content) (stored kept : ℕ) → later ≡ log ++ more → stored ≤ kept → applied log stored ≤ applied later kept
applied_rises log later more stored kept is le =
    let one = applied_longer log more stored in
    let two : applied (log ++ more) stored ≤ applied later stored = subst (λ l. applied (log ++ more) stored ≤ applied l stored) (sym is) (omega arith) in
    let three = applied_more later stored kept le in
    omega (arith, one, two, three)

-- all is applied where all is stored
pub applied_whole : (log : List Content) → applied log (length (writes_of log)) ≡ length log
applied_whole [] = refl
applied_whole (entry ∷ log) =
    ap (applied (entry ∷ log)) (length-append entry.writes (writes_of log))
    ∙ ap (λ t. cond t (1 + applied log (length entry.writes + length (writes_of log) - length entry.writes)) 0) (fits (length entry.writes) (length (writes_of log)))
    ∙ ap (λ n. 1 + applied log n) (left (length entry.writes) (length (writes_of log)))
    ∙ ap (λ n. 1 + n) (applied_whole log) ∙ more (length log)
  where
    more : (n : ℕ) → 1 + n ≡ suc n
    more n = omega arith

    fits : (a b : ℕ) → nat_le a (a + b) ≡ true
    fits a b = grind (arith, nat_tests)

    left : (a b : ℕ) → a + b - a ≡ b
    left a b = omega arith

-- ---- groups of which nothing is decided

abbrev pub has_it : GroupId → List GroupId → Bool
has_it group groups = list_any (λ (other : GroupId). same_group other group) groups

or_again : (a b : Bool) → (a || b) ≡ (a || (a || b))
or_again true b = refl
or_again false b = refl

or_swap : (a b d : Bool) → (a || (b || d)) ≡ (b || (a || d))
or_swap true true d = refl
or_swap true false d = refl
or_swap false true d = refl
or_swap false false d = refl

with_it : (group other : GroupId) (groups : List GroupId) → has_it group (with_group other groups) ≡ (same_group other group || has_it group groups)
with_it group other [] = refl
with_it group other (first ∷ groups) = by (same_group other first) (is_group_before other first) refl (with_it group other groups)
  where
    by : (t u : Bool) → same_group other first ≡ t → has_it group (with_group other groups) ≡ (same_group other group || has_it group groups)
        → has_it group (cond t (first ∷ groups) (cond u (other ∷ first ∷ groups) (first ∷ with_group other groups))) ≡ (same_group other group || (same_group first group || has_it group groups))
    by true u e rest = or_again (same_group first group) (has_it group groups) ∙ ap (λ g. same_group g group || (same_group first group || has_it group groups)) (sym (same_group_equal other first e))
    by false true e rest = refl
    by false false e rest = ap (λ t. same_group first group || t) rest ∙ or_swap (same_group first group) (same_group other group) (has_it group groups)

undecided : (met : List Met) (group : GroupId) → has_it group (groups_of met) ≡ false → (n : ℕ) → decided met group n ≡ None
undecided [] group h n = refl
undecided (Decides other position entry ∷ before) group h n =
    let parts = or_parts (same_group other group) (has_it group (groups_of before)) (sym (with_it group other (groups_of before)) ∙ h) in
    ap (λ t. cond (t && position == n) (first_of (decided before group n) entry) (decided before group n)) parts.0 ∙ undecided before group parts.1 n
undecided (_ ∷ before) group h n = undecided before group h n

none_from : (met : List Met) (group : GroupId) → ((n : ℕ) → decided met group n ≡ None) → (most n : ℕ) → decided_from met group most n ≡ []
none_from met group none zero n = refl
none_from met group none (suc most) n = ap (λ o. then_more o (decided_from met group most (n + 1))) (none n)

pub empty_log : (met : List Met) (group : GroupId) → has_it group (groups_of met) ≡ false → log_of met group ≡ []
empty_log met group h = none_from met group (undecided met group h) (length met) 1

-- ---- notes of what is applied

module _ (old at : GroupId → ℕ) where
  abbrev note_of : GroupId → List Met
  note_of group = cond (nat_lt (old group) (at group)) (Applies group (at group) ∷ []) []

  -- a note leaves what is right
  stays_one : (other group : GroupId) (x : View) (t : Bool) → x.applied group ≡ at group → (after (cond t (Applies other (at other) ∷ []) []) x).applied group ≡ at group
  stays_one other group x false h = h
  stays_one other group x true h = by (same_group other group) refl
    where
      by : (t : Bool) → same_group other group ≡ t → cond t (at other) (x.applied group) ≡ at group
      by true e = ap at (same_group_equal other group e)
      by false e = h

  stays : (groups : List GroupId) (group : GroupId) (x : View) → x.applied group ≡ at group → (after (flat_map note_of groups) x).applied group ≡ at group
  stays [] group x h = h
  stays (other ∷ groups) group x h = ap (λ (y : View). y.applied group) (after_append (note_of other) (flat_map note_of groups) x)
      ∙ stays groups group (after (note_of other) x) (stays_one other group x (nat_lt (old other) (at other)) h)

  not_lower : (a b : ℕ) → a ≤ b → nat_lt a b ≡ false → a ≡ b
  not_lower a b le h = grind (arith, nat_tests, le)

  -- and makes right what has risen
  rises_one : (other group : GroupId) (x : View) → old group ≤ at group → x.applied group ≡ old group → same_group other group ≡ true → (after (note_of other) x).applied group ≡ at group
  rises_one other group x le h same = subst (λ g. (after (note_of g) x).applied group ≡ at group) (sym (same_group_equal other group same)) (by (nat_lt (old group) (at group)) refl)
    where
      here : same_group group group ≡ true
      here = subst (λ g. same_group g group ≡ true) (same_group_equal other group same) same

      by : (t : Bool) → nat_lt (old group) (at group) ≡ t → (after (cond t (Applies group (at group) ∷ []) []) x).applied group ≡ at group
      by true e = ap (λ t. cond t (at group) (x.applied group)) here
      by false e = h ∙ not_lower (old group) (at group) le e

  other_one : (other group : GroupId) (x : View) (t : Bool) → same_group other group ≡ false → (after (cond t (Applies other (at other) ∷ []) []) x).applied group ≡ x.applied group
  other_one other group x true apart = ap (λ t. cond t (at other) (x.applied group)) apart
  other_one other group x false apart = refl

  rises_among : (groups : List GroupId) (group : GroupId) (x : View) → old group ≤ at group → x.applied group ≡ old group → has_it group groups ≡ true → (after (flat_map note_of groups) x).applied group ≡ at group
  rises_among [] group x le h there = cc
  rises_among (other ∷ groups) group x le h there = ap (λ (y : View). y.applied group) (after_append (note_of other) (flat_map note_of groups) x) ∙ by (same_group other group) refl there (rises_among groups group (after (note_of other) x))
    where
      by : (t : Bool) → same_group other group ≡ t → (t || has_it group groups) ≡ true
          → (old group ≤ at group → (after (note_of other) x).applied group ≡ old group → has_it group groups ≡ true → (after (flat_map note_of groups) (after (note_of other) x)).applied group ≡ at group)
          → (after (flat_map note_of groups) (after (note_of other) x)).applied group ≡ at group
      by true e among rest = stays groups group (after (note_of other) x) (rises_one other group x le h e)
      by false e among rest = rest le (other_one other group x (nat_lt (old other) (at other)) e ∙ h) among

  pub rises_all : (groups : List GroupId) (group : GroupId) (x : View) → old group ≤ at group → x.applied group ≡ old group → (has_it group groups ≡ false → at group ≡ 0) → (after (flat_map note_of groups) x).applied group ≡ at group
  rises_all groups group x le h none = by (has_it group groups) refl
    where
      by : (t : Bool) → has_it group groups ≡ t → (after (flat_map note_of groups) x).applied group ≡ at group
      by true e = rises_among groups group x le h e
      by false e = stays groups group x (h ∙ (let is = none e in let same : old group ≡ at group = omega (arith, is, le) in same))

pub applied_none : (met : List Met) (stored : GroupId → ℕ) (group : GroupId) → has_it group (groups_of met) ≡ false → applied_at met stored group ≡ 0
applied_none met stored group h = ap (λ log. applied log (stored group)) (empty_log met group h)

pub apply_told : (s : Setting) (was : List Met) (was_stored : GroupId → ℕ) (met : List Met) (stored : GroupId → ℕ) (x : View) (group : GroupId) → has_rows s.cluster s.me ≡ true → applied_at was was_stored group ≤ applied_at met stored group
    → x.applied group ≡ applied_at was was_stored group → (after (apply_notes s was was_stored met stored) x).applied group ≡ applied_at met stored group
apply_told s was was_stored met stored x group rows le h =
    ap (λ t. (after (cond t (flat_map (note_of (applied_at was was_stored) (applied_at met stored)) (groups_of met)) []) x).applied group) rows
    ∙ rises_all (applied_at was was_stored) (applied_at met stored) (groups_of met) group x le h (applied_none met stored group)

pub start_told : (s : Setting) (met : List Met) (x : View) (group : GroupId) → has_rows s.cluster s.me ≡ true → x.applied group ≡ 0 → (after (start_notes s met) x).applied group ≡ prefix_of met group
start_told s met x group rows h =
    ap (λ t. (after (cond t (flat_map (note_of (λ g. 0) (prefix_of met)) (groups_of met)) []) x).applied group) rows
    ∙ rises_all (λ g. 0) (prefix_of met) (groups_of met) group x (omega arith) h (λ none. ap (λ (log : List Content). length log) (empty_log met group none))
