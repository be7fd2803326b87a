-- What a node that is up is after a step, and what a crash within it leaves.
use Rattle.std.proofs.Common.{◌≡◌, ◌⊎◌, inl, inr, ℕ, ◌+◌, ◌≤◌, Bool, true, false, List, [], ◌∷◌, length, map, None, refl, sym, ap, subst, ◌∙◌, arith}
use Rattle.std.specs.List.{All}
use Rattle.mega_disk.specs.Images.{LeavesOnly, Only}
use Rattle.mega_disk.specs.declared.records.Records.{Ghosts}
use Rattle.mega_wal.specs.declared.item.JournalItem.{JournalItem}
use Rattle.mega_wal.specs.Items.{IsItem}
use Rattle.mega_rules.specs.Clock.{start_of}
use Rattle.mega_rules.specs.Met.{Met, Crashes, Sends}
use Rattle.mega_rules.specs.Operations.{Node, Setting}
use Rattle.mega_rules.specs.Steps.{Begin, Event, Step, Take, Tick, onto, step}
use Rattle.mega_voter.specs.Holding.{GoesOn, HoldsMet, starts_after}
use Rattle.mega_voter.specs.Journal.{item_of, journal_of}
use Rattle.mega_voter.specs.Telling.{AreHonest}
use Rattle.mega_voter.proofs.Begun.{Beside}
use Rattle.mega_voter.proofs.Held.{silent_held}
use Rattle.mega_core.specs.of_node_laws.Acted.{own_item}
use Rattle.mega_core.proofs.of_node_laws.Ending.{step_met}
use Rattle.mega_core.specs.of_step_parts.Staging.{Stages}
use Rattle.mega_promises.specs.Runs.{AsItWas, Recorded, owes, replies_in}
use Rattle.mega_durable.specs.Cut.{HoldsCut, MayLeave}
use Rattle.mega_durable.proofs.Noted.{HasParts, is_noted, step_parts}
use Rattle.mega_durable.proofs.Cutting.{cut_beside, cut_start, whole_start}
use Rattle.mega_durable.proofs.Going.{cut_goes, made_few, none_started, one_reply_in, staged_few, staged_formed, whole_goes}

pub own_silent : (s : Setting) (node : Node) (event : Event) → item_of node.met (own_item s node event) ≡ None
own_silent s node (Tick now) = refl
own_silent s node (Take m) = refl
own_silent s node (Begin request text) = refl

own_noted : (s : Setting) (node : Node) (event : Event) → is_noted (own_item s node event) ≡ true
own_noted s node (Tick now) = refl
own_noted s node (Take m) = refl
own_noted s node (Begin request text) = refl

-- ---- what a step stages may be made one record
pub step_few : (s : Setting) (node : Node) (event : Event) (staged : List JournalItem) → Stages staged node.met (step s node event).node.met → length staged ≤ 1000
step_few s node event staged stages =
    let few = staged_few staged node.met (step s node event).node.met 11 stages
    (subst (λ (met : List Met). length (journal_of met) ≤ 11 + length (journal_of node.met)) (sym (step_met s node event))
    (made_few (step s node event) (replies_in s.cluster s.me node.met event) (own_item s node event) node.met (step_parts s node event) (one_reply_in s.cluster s.me node.met event) (own_silent s node event))) in
    within (length staged) few
  where
    within : (n : ℕ) → n ≤ 11 → n ≤ 1000
    within n le = omega arith

pub step_each : (s : Setting) (node : Node) (event : Event) (staged : List JournalItem) → Stages staged node.met (step s node event).node.met → All IsItem (journal_of (step s node event).node.met) → All IsItem staged
step_each s node event staged stages each = staged_formed staged node.met (step s node event).node.met stages each

-- ---- the step is in the same start
pub step_start : (s : Setting) (node : Node) (event : Event) → start_of (step s node event).node.met ≡ start_of node.met
step_start s node event =
    ap start_of (step_met s node event) ∙ whole_start (step s node event) (own_item s node event) node.met (step_parts s node event).notes.noted (own_noted s node event)

pub step_goes : (s : Setting) (node : Node) (event : Event) (staged : List JournalItem) → Stages staged node.met (step s node event).node.met → AreHonest (step s node event).node.met
    → GoesOn staged (start_of node.met) node.met (step s node event).node.met
step_goes s node event staged stages honest = whole_goes staged node.met (step s node event).node.met stages (step_start s node event) honest

-- what the records hold once the record of the step is there
pub step_holds : (s : Setting) (node : Node) (event : Event) (staged : List JournalItem) (found : List (List ℕ)) → Stages staged node.met (step s node event).node.met
    → HoldsMet found (starts_after staged (start_of node.met)) (step s node event).node.met → HoldsMet found (start_of (step s node event).node.met) (step s node event).node.met
step_holds s node event staged found stages holds =
    subst (λ (n : ℕ). HoldsMet found n (step s node event).node.met) (none_started staged (start_of node.met) stages.plain ∙ sym (step_start s node event)) holds

-- ---- a step that is cut off
abbrev cut_met : Setting → Node → Event → List Met
cut_met s node event = onto (owes (step s node event) (replies_in s.cluster s.me node.met event)) (Crashes ∷ own_item s node event ∷ node.met)

pub step_cut : (s : Setting) (node : Node) (event : Event) (staged : List JournalItem) → Stages staged node.met (step s node event).node.met → AreHonest (step s node event).node.met
    → GoesOn staged (start_of node.met) node.met (onto (owes (step s node event) (replies_in s.cluster s.me node.met event)) (Crashes ∷ own_item s node event ∷ node.met))
step_cut s node event staged stages honest =
    cut_goes staged node.met (step s node event).node.met (cut_met s node event) stages
    (subst (Beside (cut_met s node event)) (sym (step_met s node event)) (cut_beside (step s node event) (replies_in s.cluster s.me node.met event) (own_item s node event) node.met parts))
    (cut_start (step s node event) (replies_in s.cluster s.me node.met event) (own_item s node event) node.met parts.notes.noted (own_noted s node event))
    honest
  where
    parts : HasParts (step s node event) (replies_in s.cluster s.me node.met event)
    parts = step_parts s node event

pub cut_before : (s : Setting) (node : Node) (event : Event) (found : List (List ℕ)) → HoldsMet found (start_of node.met) node.met → HoldsCut s node event found AsItWas
cut_before s node event found holds =
    (silent_held found (start_of node.met) (own_item s node event ∷ node.met) Crashes refl).0 ((silent_held found (start_of node.met) node.met (own_item s node event) (own_silent s node event)).0 holds)

pub as_it_was : (s : Setting) (node : Node) (event : Event) (found : List (List ℕ)) → HoldsMet found (start_of node.met) node.met → MayLeave s node event found
as_it_was s node event found holds = (AsItWas, cut_before s node event found holds)

pub left_by_record : (s : Setting) (node : Node) (event : Event) (staged : List JournalItem) (found : List (List ℕ)) → Stages staged node.met (step s node event).node.met
    → HoldsMet found (start_of node.met) node.met
    ⊎ HoldsMet found (starts_after staged (start_of node.met)) (onto (owes (step s node event) (replies_in s.cluster s.me node.met event)) (Crashes ∷ own_item s node event ∷ node.met))
    → MayLeave s node event found
left_by_record s node event staged found stages (inl holds) = as_it_was s node event found holds
left_by_record s node event staged found stages (inr holds) = (Recorded, subst (λ (n : ℕ). HoldsMet found n (cut_met s node event)) (none_started staged (start_of node.met) stages.plain) holds)

-- ---- crashes at any moment
pub leaves_weaker : {D X : Type 0} (moment : D → ℕ) (since : D → ℕ → X → Type 0) (old new : D) (P Q : X → Type 0) → ((c : X) → P c → Q c) → LeavesOnly moment since old new P → LeavesOnly moment since old new Q
leaves_weaker {X = X} moment since old new P Q weaker leaves = record {
  later = leaves.later;
  each = λ c left. weaker c (leaves.each c left);
  before = λ t c le left. go c (leaves.before t c le left);
}
  where
    go : {A : Type 0} (c : X) → A ⊎ P c → A ⊎ Q c
    go c (inl was) = inl was
    go c (inr is) = inr (weaker c is)

-- a call that changes nothing leaves the list as it was
pub leaves_same : {R : Type 0} (store : Ghosts R) (old new : R) (P : List (List ℕ) → Type 0) → Only (store.list old) (store.may_open old)
    → ((found : List (List ℕ)) → store.opened_since old (store.moment old) found → store.may_open old found) → new ≡ old → P (store.list old)
    → LeavesOnly store.moment store.opened_since old new P
leaves_same {R = R} store old new P only only_now same is = subst (λ (one : R). LeavesOnly store.moment store.opened_since old one P) (sym same) (record {
  later = omega arith;
  each = λ c left. subst P (sym (only c (only_now c left))) is;
  before = λ t c le left. inl left;
})
