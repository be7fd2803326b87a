-- The notes of a step in three parts: of cell and coordinator, its decision, and behind these what is applied, what becomes valid, and answers.
use Rattle.std.proofs.Common.{◌≡◌, ℕ, nat_lt, Bool, true, false, cond, List, [], ◌∷◌, ◌++◌, map, flat_map, Option, Some, None, refl, ap}
use Rattle.mega_base.specs.declared.names.GroupId.{GroupId}
use Rattle.mega_coordinator.specs.declared.answers.NotValid.{NotValid}
use Rattle.mega_entry.specs.declared.content.Content.{Content}
use Rattle.mega_wire.specs.declared.message.Message.{Message}
use Rattle.mega_lease_laws.specs.of_run_laws.of_tape_laws.of_promises.of_rules.Clock.{clock_of}
use Rattle.mega_lease_laws.specs.of_run_laws.of_tape_laws.of_promises.of_rules.Logs.{groups_of}
use Rattle.mega_lease_laws.specs.of_run_laws.of_tape_laws.of_promises.of_rules.Members.{has_rows}
use Rattle.mega_lease_laws.specs.of_run_laws.of_tape_laws.of_promises.of_rules.Met.{Answers, Applies, Begins, Decides, Met, Validates}
use Rattle.mega_lease_laws.specs.of_run_laws.of_tape_laws.of_promises.of_rules.Operations.{Node, Now, Setting}
use Rattle.mega_lease_laws.specs.of_run_laws.of_tape_laws.of_promises.of_rules.Acting.{validated_by}
use Rattle.mega_lease_laws.specs.of_run_laws.of_tape_laws.of_promises.of_rules.Steps.{Begin, Decision, Event, Heard, Take, Tick, all_act, applied_at, apply_note, apply_notes, at_first, at_open, decision_note, first_settled, hears_message, if_new, lapse_notes, lease_notes, new_operation, op_of, portion_of, refusal, step, stored_after, told_decision, told_notes}
use Rattle.mega_lease_laws.specs.of_run_laws.Justified.{Each}
use Rattle.mega_lease_laws.proofs.of_run_laws.Noting.{Lasts, all_act_it, begun_it, ticked_it}
use Rattle.mega_lease_laws.proofs.of_run_laws.Events.{each_append as each_both}
use Rattle.mega_lease_laws.proofs.of_run_laws.Whole.{take_by}

-- what a step notes of cell and coordinator
abbrev pub fronts : Setting → Node → Event → List Met
fronts s node (Tick now) = lease_notes s node.met now ++ lapse_notes s node.met now
fronts s node (Take m) = told_notes s node.met m.from m.body
fronts s node (Begin request text) = []

-- with the decision that it makes
abbrev pub decision_in : Setting → Node → Message → Option Decision → Option Decision
decision_in s node m (Some d) = if_new node.met (Some d)
decision_in s node m None = if_new node.met (first_settled (map (hears_message s (clock_of node.met) m) node.open_operations))

abbrev pub front_of : Setting → Node → Event → List Met
front_of s node (Tick clock) = lease_notes s node.met clock ++ lapse_notes s node.met clock
front_of s node (Take m) = told_notes s node.met m.from m.body ++ decision_note (decision_in s node m (told_decision m.body))
front_of s node (Begin request text) = []

pub front_apart : {X : Type 0} (front applies valid answers : List X) → ((front ++ applies) ++ valid) ++ answers ≡ front ++ ((applies ++ valid) ++ answers)
front_apart [] applies valid answers = refl
front_apart (x ∷ front) applies valid answers = ap (λ xs. x ∷ xs) (front_apart front applies valid answers)

-- what is applied, what becomes valid, and answers
abbrev pub IsTail : Met → Type 0
IsTail (Applies group position) = Unit {0}
IsTail (Validates group position) = Unit {0}
IsTail (Answers op answer) = Unit {0}
IsTail _ = ⊥

pub record Parted (front notes : List Met) : Type 0 where
  pub rest : List Met
  pub is : notes ≡ front ++ rest
  pub each : Each IsTail rest

record Tails (now : Now) : Type 0 where
  valid : Each IsTail now.valid
  answers : Each IsTail now.answers

tails_last : Lasts Tails
tails_last = record {
  keeps_it = λ now o h. record { valid = h.valid; answers = h.answers };
  ends_it = λ now op answer h. record { valid = h.valid; answers = each_both IsTail now.answers (Answers op answer ∷ []) h.answers (tt, tt) };
  sends_it = λ now ms h. record { valid = h.valid; answers = h.answers };
  stores_it = λ now stored h. record { valid = h.valid; answers = h.answers };
  validates_it = λ now group p refusal h. validated_tail now group p refusal h;
}
  where
    validated_tail : (now : Now) (group : GroupId) (p : ℕ) (refusal : Option NotValid) → Tails now → Tails (validated_by now group p refusal)
    validated_tail now group p (Some why) h = h
    validated_tail now group p None h = record { valid = each_both IsTail now.valid (Validates group p ∷ []) h.valid (tt, tt); answers = h.answers }

tail_if : (t : Bool) (xs : List Met) → Each IsTail xs → Each IsTail (cond t xs [])
tail_if true xs h = h
tail_if false xs h = tt

apply_tail : (s : Setting) (was : List Met) (was_stored : GroupId → ℕ) (met : List Met) (stored : GroupId → ℕ) → Each IsTail (apply_notes s was was_stored met stored)
apply_tail s was was_stored met stored = tail_if (has_rows s.cluster s.me) _ (each (groups_of met))
  where
    each : (groups : List GroupId) → Each IsTail (flat_map (apply_note was was_stored met stored) groups)
    each [] = tt
    each (group ∷ groups) = each_both IsTail (apply_note was was_stored met stored group) (flat_map (apply_note was was_stored met stored) groups)
        (tail_if (nat_lt (applied_at was was_stored group) (applied_at met stored group)) (Applies group (applied_at met stored group) ∷ []) (tt, tt)) (each groups)

module _ (s : Setting) (node : Node) where
  parted : (front : List Met) (now : Now) → Tails now → Parted front (((front ++ apply_notes s node.met node.stored now.met now.stored) ++ now.valid) ++ now.answers)
  parted front now h = record {
    rest = (apply_notes s node.met node.stored now.met now.stored ++ now.valid) ++ now.answers;
    is = front_apart front (apply_notes s node.met node.stored now.met now.stored) now.valid now.answers;
    each = each_both IsTail (apply_notes s node.met node.stored now.met now.stored ++ now.valid) now.answers
        (each_both IsTail (apply_notes s node.met node.stored now.met now.stored) now.valid (apply_tail s node.met node.stored now.met now.stored) h.valid) h.answers;
  }

  none_yet : (met : List Met) (stored : GroupId → ℕ) → Tails (at_first met stored)
  none_yet met stored = record { valid = tt; answers = tt }

  pub step_parted : (event : Event) → Parted (front_of s node event) (step s node event).notes
  step_parted (Tick clock) = parted (lease_notes s node.met clock ++ lapse_notes s node.met clock) _ (ticked_it Tails tails_last s clock node.open_operations (at_first _ (portion_of s node.met node.stored)) (none_yet _ (portion_of s node.met node.stored)))
  step_parted (Begin request text) = parted [] _ (begun_it Tails tails_last s (at_open (at_first (Begins (op_of s node.met) text ∷ node.met) node.stored) node.open_operations) (new_operation (op_of s node.met) request (clock_of node.met)) (refusal s node request) (record { valid = tt; answers = tt }))
  step_parted (Take m) = by (told_decision m.body)
    where
      ts : List Heard
      ts = map (hears_message s (clock_of node.met) m) node.open_operations

      acted : (d : Option Decision) (base : List Met) → Tails (all_act s (at_first base (stored_after s base node.stored d)) ts)
      acted d base = all_act_it Tails tails_last s ts (at_first base (stored_after s base node.stored d)) (none_yet base (stored_after s base node.stored d))

      by : (told : Option Decision) → Parted (told_notes s node.met m.from m.body ++ decision_note (decision_in s node m told)) (take_by s node m ts told).notes
      by (Some d) = parted (told_notes s node.met m.from m.body ++ decision_note (if_new node.met (Some d))) _ (acted (if_new node.met (Some d)) _)
      by None = parted (told_notes s node.met m.from m.body ++ decision_note (if_new node.met (first_settled ts))) _ (acted (if_new node.met (first_settled ts)) _)

-- what holds of each first note and of decisions
pub front_each : (P : Met → Type 0) (s : Setting) (node : Node) (event : Event) → Each P (fronts s node event) → ((g : GroupId) (n : ℕ) (e : Content) → P (Decides g n e)) → Each P (front_of s node event)
front_each P s node (Tick clock) h f = h
front_each P s node (Begin request text) h f = tt
front_each P s node (Take m) h f = each_both P (told_notes s node.met m.from m.body) (decision_note (decision_in s node m (told_decision m.body))) h (by (decision_in s node m (told_decision m.body)))
  where
    by : (d : Option Decision) → Each P (decision_note d)
    by None = tt
    by (Some d) = (f d.group d.position d.entry, tt)
