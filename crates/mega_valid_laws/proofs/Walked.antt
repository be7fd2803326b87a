-- After each step of a full node what it noted of its epochs and groups is what its coordinator holds.
use Rattle.std.proofs.Common.{◌≡◌, ℕ, ◌+◌, ◌==◌, ◌&&◌, nat_le, nat_lt, Bool, true, false, cond, List, [], ◌∷◌, ◌++◌, filter, flat_map, fold, map, Option, Some, None, is_some, refl, sym, ap, ◌∙◌, subst}
use Rattle.mega_base.specs.declared.names.Epoch.{Epoch}
use Rattle.mega_base.specs.declared.names.GroupId.{GroupId}
use Rattle.mega_base.specs.declared.names.OpId.{OpId}
use Rattle.mega_cluster.specs.declared.cluster.Cluster.{Cluster}
use Rattle.mega_coordinator.specs.declared.answers.NotValid.{NotValid}
use Rattle.mega_coordinator.specs.Lease.{counted_by}
use Rattle.mega_coordinator.specs.History.{Grants as Grant, Invalidates as Invalid, Passes, Ticks as CoordinatorTicks, epoch_after, is_valid, lease_of, serving}
use Rattle.mega_locks.specs.declared.asked.Asked.{Asked}
use Rattle.mega_locks.specs.History.{lapse_for, nodes as lock_nodes}
use Rattle.mega_wal.specs.Same.{same_group}
use Rattle.mega_locks.specs.declared.asked.Asked.TheVariants.{Granted as AnswerGranted, Renewed, GreaterHeld, Over}
use Rattle.mega_outcome.specs.declared.answer.Answer.{Answer}
use Rattle.mega_outcome.specs.declared.request.Request.{Request}
use Rattle.mega_wire.specs.declared.message.Message.{Message}
use Rattle.mega_wire.specs.declared.message.Body.{Body}
use Rattle.mega_wire.specs.declared.message.Body.TheVariants.{Acquire, Granted, Invalidate, Past}
use Rattle.mega_settled_laws.specs.of_tape_laws.of_promises.of_rules.of_read.declared.reading.Stage.TheVariants.{Catching}
use Rattle.mega_settled_laws.specs.of_tape_laws.of_promises.of_rules.of_read.declared.reading.Search.{Search}
use Rattle.mega_settled_laws.specs.of_tape_laws.of_promises.of_rules.Met.{Met, Starts, Crashes, Ticks, Begins, Takes, Sends, Unsends, Grants, Lapses, Counts, Forgets, Serves, Loses, Validates, Invalidates, Decides, Applies, Answers}
use Rattle.mega_settled_laws.specs.of_tape_laws.of_promises.of_rules.Clock.{clock_of, start_of}
use Rattle.mega_settled_laws.specs.of_tape_laws.of_promises.of_rules.Coordinators.{acquires_at, coordinator_calls, forget_notes, grant_notes, is_cell_in, lost_note, refused_at, tick_told, told_by, validated}
use Rattle.mega_settled_laws.specs.of_tape_laws.of_promises.of_rules.Locks.{asked_for, cell_calls, grant_note, lapse_note, lapses_at}
use Rattle.mega_settled_laws.specs.of_tape_laws.of_promises.of_rules.Logs.{groups_of}
use Rattle.mega_settled_laws.specs.of_tape_laws.of_promises.of_rules.Members.{cells, has_rows, is_full, keep_of}
use Rattle.mega_settled_laws.specs.of_tape_laws.of_promises.of_rules.Operations.{Node, Now, Operation, Setting}
use Rattle.mega_settled_laws.specs.of_tape_laws.of_promises.of_rules.Acting.{completes_read, ends, sends_more, validated_by}
use Rattle.mega_settled_laws.specs.of_tape_laws.of_promises.of_rules.Steps.{Begin, Decision, Event, Heard, Take, Tick, acts_in_turn, all_act, applied_at, apply_note, apply_notes, at_first, at_open, background, begin_step, decision_note, does_due, first_settled, hears_message, if_new, is_out, lapse_notes, last_answer, lease_notes, new_operation, news, onto, op_of, portion_of, refusal, step, stored_after, take_step, taken, tick_step, ticked, told_decision, told_notes, unless_refused}
use Rattle.mega_settled_laws.specs.of_tape_laws.of_promises.of_rules.Replies.{reply_to}
use Rattle.mega_settled_laws.specs.of_run_laws.Justified.{Each}
use Rattle.mega_settled_laws.proofs.of_run_laws.Events.{IsAnswer, each_append as each_both, onto_append}
use Rattle.mega_settled_laws.proofs.of_run_laws.Turns.{each_on}
use Rattle.mega_settled_laws.proofs.Walk.{Walks, begun_it, goes_on_it}
use Rattle.mega_settled_laws.proofs.of_run_laws.Whole.{take_by}
use Rattle.mega_valid_laws.specs.Showing.{serving_met, valid_met}
use Rattle.mega_valid_laws.proofs.Agreeing.{Agrees, grant_agrees, invalid_agrees, pass_agrees, tick_agrees, valid_agrees}
use Rattle.mega_valid_laws.proofs.Folds.{after_serving, after_valid, onto_serving, onto_valid}
use Rattle.mega_valid_laws.proofs.NoCalls.{IsNoCall, Uncalled, forgets_no_call, lost_no_call, told_no_call, uncalled_all}

abbrev pub AgreesAt : Cluster → List Met → Type 0
AgreesAt c met = Agrees (start_of met) c.cells (coordinator_calls c met) (serving_met met) (valid_met met)

-- ---- notes that say nothing of epochs and groups

abbrev pub IsNeutral : Met → Type 0
IsNeutral (Starts start) = ⊥
IsNeutral Crashes = ⊥
IsNeutral (Ticks now) = ⊥
IsNeutral (Takes message) = ⊥
IsNeutral (Serves epoch) = ⊥
IsNeutral (Loses epoch) = ⊥
IsNeutral (Validates group position) = ⊥
IsNeutral (Invalidates group position) = ⊥
IsNeutral _ = Unit {0}

-- two lists of notes that are the same to a coordinator
pub record SameTo (c : Cluster) (one two : List Met) : Type 0 where
  pub start : start_of one ≡ start_of two
  pub calls : coordinator_calls c one ≡ coordinator_calls c two
  pub serving : serving_met one ≡ serving_met two
  pub valid : (group : GroupId) → valid_met one group ≡ valid_met two group

same_self : (c : Cluster) (met : List Met) → SameTo c met met
same_self c met = record { start = refl; calls = refl; serving = refl; valid = λ group. refl }

same_then : (c : Cluster) (a b d : List Met) → SameTo c a b → SameTo c b d → SameTo c a d
same_then c a b d x y = record { start = x.start ∙ y.start; calls = x.calls ∙ y.calls; serving = x.serving ∙ y.serving; valid = λ group. x.valid group ∙ y.valid group }

neutral_one : (c : Cluster) (one : Met) (met : List Met) → IsNeutral one → SameTo c (one ∷ met) met
neutral_one c (Starts start) met n = absurd n
neutral_one c Crashes met n = absurd n
neutral_one c (Ticks now) met n = absurd n
neutral_one c (Takes message) met n = absurd n
neutral_one c (Serves epoch) met n = absurd n
neutral_one c (Loses epoch) met n = absurd n
neutral_one c (Validates group position) met n = absurd n
neutral_one c (Invalidates group position) met n = absurd n
neutral_one c (Begins op text) met n = record { start = refl; calls = refl; serving = refl; valid = λ group. refl }
neutral_one c (Sends message) met n = record { start = refl; calls = refl; serving = refl; valid = λ group. refl }
neutral_one c (Unsends message) met n = record { start = refl; calls = refl; serving = refl; valid = λ group. refl }
neutral_one c (Grants node epoch) met n = record { start = refl; calls = refl; serving = refl; valid = λ group. refl }
neutral_one c (Lapses node epoch) met n = record { start = refl; calls = refl; serving = refl; valid = λ group. refl }
neutral_one c (Counts cell epoch) met n = record { start = refl; calls = refl; serving = refl; valid = λ group. refl }
neutral_one c (Forgets cell epoch) met n = record { start = refl; calls = refl; serving = refl; valid = λ group. refl }
neutral_one c (Decides group position entry) met n = record { start = refl; calls = refl; serving = refl; valid = λ group. refl }
neutral_one c (Applies group position) met n = record { start = refl; calls = refl; serving = refl; valid = λ group. refl }
neutral_one c (Answers op answer) met n = record { start = refl; calls = refl; serving = refl; valid = λ group. refl }

pub neutral_all : (c : Cluster) (notes met : List Met) → Each IsNeutral notes → SameTo c (onto notes met) met
neutral_all c [] met n = same_self c met
neutral_all c (one ∷ notes) met n = same_then c (onto notes (one ∷ met)) (one ∷ met) met (neutral_all c notes (one ∷ met) n.1) (neutral_one c one met n.0)

pub agrees_same : (c : Cluster) (one two : List Met) → SameTo c one two → AgreesAt c two → AgreesAt c one
agrees_same c one two s a = record {
  serves = s.serving ∙ a.serves ∙ (λ i. serving (sym s.start i) c.cells (sym s.calls i));
  groups = λ group. s.valid group ∙ a.groups group ∙ (λ i. is_valid (sym s.start i) c.cells (sym s.calls i) group);
}

neutral_map : {X : Type 0} (f : X → Met) → ((x : X) → IsNeutral (f x)) → (xs : List X) → Each IsNeutral (map f xs)
neutral_map f h [] = tt
neutral_map f h (x ∷ xs) = (h x, neutral_map f h xs)

neutral_flat : {X : Type 0} (f : X → List Met) → ((x : X) → Each IsNeutral (f x)) → (xs : List X) → Each IsNeutral (flat_map f xs)
neutral_flat f h [] = tt
neutral_flat f h (x ∷ xs) = each_both IsNeutral (f x) (flat_map f xs) (h x) (neutral_flat f h xs)

neutral_if : (t : Bool) (xs : List Met) → Each IsNeutral xs → Each IsNeutral (cond t xs [])
neutral_if true xs h = h
neutral_if false xs h = tt

apply_neutral : (s : Setting) (was : List Met) (was_stored : GroupId → ℕ) (met : List Met) (stored : GroupId → ℕ) → Each IsNeutral (apply_notes s was was_stored met stored)
apply_neutral s was was_stored met stored = neutral_if (has_rows s.cluster s.me) (flat_map (apply_note was was_stored met stored) (groups_of met)) (neutral_flat (apply_note was was_stored met stored)
    (λ group. neutral_if (nat_lt (applied_at was was_stored group) (applied_at met stored group)) (Applies group (applied_at met stored group) ∷ []) (tt, tt)) (groups_of met))

lapse_neutral : (s : Setting) (met : List Met) (now : ℕ) → Each IsNeutral (lapse_notes s met now)
lapse_neutral s met now = neutral_if (nat_le s.me s.cluster.cells) (lapses_at s.cluster s.me met now)
    (neutral_flat (λ node. lapse_note node (lapse_for (cell_calls s.cluster s.me met) now (keep_of s.cluster) node)) (λ node. one node (lapse_for (cell_calls s.cluster s.me met) now (keep_of s.cluster) node)) lock_nodes)
  where
    one : (node : ℕ) (o : Option Epoch) → Each IsNeutral (lapse_note node o)
    one node None = tt
    one node (Some epoch) = (tt, tt)

decision_neutral : (d : Option Decision) → Each IsNeutral (decision_note d)
decision_neutral None = tt
decision_neutral (Some d) = (tt, tt)

sends_neutral : (ms : List Message) → Each IsNeutral (map Sends ms)
sends_neutral ms = neutral_map Sends (λ m. tt) ms

answers_neutral : (notes : List Met) → Each IsAnswer notes → Each IsNeutral notes
answers_neutral notes h = each_on IsAnswer IsNeutral one notes h
  where
    one : (note : Met) → IsAnswer note → IsNeutral note
    one (Answers op answer) is = tt
    one _ is = absurd is

-- ---- notes of the coordinator

agrees_noted : (c : Cluster) (notes met : List Met) → Each IsNoCall notes
    → Agrees (start_of met) c.cells (coordinator_calls c met) (after_serving notes (serving_met met)) (λ group. after_valid group notes (valid_met met group)) → AgreesAt c (onto notes met)
agrees_noted c notes met n a = record {
  serves = onto_serving notes met ∙ a.serves ∙ (λ i. serving (sym same.start i) c.cells (sym same.calls i));
  groups = λ group. onto_valid group notes met ∙ a.groups group ∙ (λ i. is_valid (sym same.start i) c.cells (sym same.calls i) group);
}
  where
    same : Uncalled c (onto notes met) met
    same = uncalled_all c notes met n

-- ---- a message that is taken

module _ (s : Setting) (full : is_full s.cluster s.me ≡ true) where
  acquire_serving : (t : Bool) (from : ℕ) (epoch : Epoch) (a : Asked) (x : Option Epoch) → after_serving (cond t (grant_note from epoch a) []) x ≡ x
  acquire_serving false from epoch a x = refl
  acquire_serving true from epoch AnswerGranted x = refl
  acquire_serving true from epoch Renewed x = refl
  acquire_serving true from epoch (GreaterHeld greatest) x = refl
  acquire_serving true from epoch (Over greatest) x = refl

  acquire_valid : (group : GroupId) (t : Bool) (from : ℕ) (epoch : Epoch) (a : Asked) (x : Bool) → after_valid group (cond t (grant_note from epoch a) []) x ≡ x
  acquire_valid group false from epoch a x = refl
  acquire_valid group true from epoch AnswerGranted x = refl
  acquire_valid group true from epoch Renewed x = refl
  acquire_valid group true from epoch (GreaterHeld greatest) x = refl
  acquire_valid group true from epoch (Over greatest) x = refl

  body_agrees : (met : List Met) (from : ℕ) (body : Body) → AgreesAt s.cluster met
      → Agrees (start_of met) s.cluster.cells (told_by s.cluster (clock_of met) body ++ coordinator_calls s.cluster met) (after_serving (told_notes s met from body) (serving_met met))
      (λ group. after_valid group (told_notes s met from body) (valid_met met group))
  body_agrees met from (Granted cell epoch clock) a = by (is_full s.cluster s.me) full (nat_le cell s.cluster.cells)
    where
      by : (f : Bool) → f ≡ true → (u : Bool)
          → Agrees (start_of met) s.cluster.cells (cond u (Grant cell epoch (clock + s.cluster.lease) (clock_of met) ∷ []) [] ++ coordinator_calls s.cluster met) (after_serving (cond (f && u) (grant_notes s.cluster met cell epoch clock) []) (serving_met met))
          (λ group. after_valid group (cond (f && u) (grant_notes s.cluster met cell epoch clock) []) (valid_met met group))
      by true h true = grant_agrees (start_of met) s.cluster.cells (coordinator_calls s.cluster met) (serving_met met) (valid_met met) a cell epoch (clock + s.cluster.lease) (clock_of met)
          (is_some (counted_by (lease_of (start_of met) s.cluster.cells (coordinator_calls s.cluster met)) cell))
      by true h false = a
      by false h u = cc
  body_agrees met from (Past cell epoch greatest) a = by (nat_le cell s.cluster.cells)
    where
      by : (u : Bool) → Agrees (start_of met) s.cluster.cells (cond u (Passes epoch ∷ []) [] ++ coordinator_calls s.cluster met) (serving_met met) (valid_met met)
      by true = pass_agrees (start_of met) s.cluster.cells (coordinator_calls s.cluster met) (serving_met met) (valid_met met) a epoch
      by false = a
  body_agrees met from (Invalidate op group n) a = by (is_full s.cluster s.me) full
    where
      by : (f : Bool) → f ≡ true → Agrees (start_of met) s.cluster.cells (Invalid group n.0 ∷ coordinator_calls s.cluster met) (after_serving (cond f (Invalidates group n.0 ∷ []) []) (serving_met met))
          (λ other. after_valid other (cond f (Invalidates group n.0 ∷ []) []) (valid_met met other))
      by true h = invalid_agrees (start_of met) s.cluster.cells (coordinator_calls s.cluster met) (serving_met met) (valid_met met) a group n.0
      by false h = cc
  body_agrees met from (Acquire cell epoch clock) a = record {
    serves = acquire_serving (cell == s.me && nat_le s.me s.cluster.cells) from epoch (asked_for s.cluster s.me met from epoch) (serving_met met) ∙ a.serves;
    groups = λ group. acquire_valid group (cell == s.me && nat_le s.me s.cluster.cells) from epoch (asked_for s.cluster s.me met from epoch) (valid_met met group) ∙ a.groups group;
  }
  body_agrees met from _ a = record { serves = a.serves; groups = a.groups }

  taken_agrees : (met : List Met) (m : Message) (d : Option Decision) → AgreesAt s.cluster met → AgreesAt s.cluster (onto (decision_note d) (onto (told_notes s met m.from m.body) (Takes m ∷ met)))
  taken_agrees met m d a = agrees_same s.cluster (onto (decision_note d) (onto (told_notes s met m.from m.body) (Takes m ∷ met))) (onto (told_notes s met m.from m.body) (Takes m ∷ met))
      (neutral_all s.cluster (decision_note d) (onto (told_notes s met m.from m.body) (Takes m ∷ met)) (decision_neutral d))
      (agrees_noted s.cluster (told_notes s met m.from m.body) (Takes m ∷ met) (told_no_call s met m.from m.body) (body_agrees met m.from m.body a))

  -- ---- a tick

  forgets_serving : (o : Option Epoch) (xs : List ℕ) (more : List Met) (x : Option Epoch) → after_serving (forget_notes o xs ++ more) x ≡ after_serving more x
  forgets_serving None xs more x = refl
  forgets_serving (Some epoch) [] more x = refl
  forgets_serving (Some epoch) (cell ∷ xs) more x = forgets_serving (Some epoch) xs more x

  forgets_valid : (group : GroupId) (o : Option Epoch) (xs : List ℕ) (more : List Met) (x : Bool) → after_valid group (forget_notes o xs ++ more) x ≡ after_valid group more x
  forgets_valid group None xs more x = refl
  forgets_valid group (Some epoch) [] more x = refl
  forgets_valid group (Some epoch) (cell ∷ xs) more x = forgets_valid group (Some epoch) xs more x

  lease_agrees : (met : List Met) (now : ℕ) → AgreesAt s.cluster met → AgreesAt s.cluster (onto (lease_notes s met now) (Ticks now ∷ met))
  lease_agrees met now a = by (is_full s.cluster s.me) full
    where
      forgot : List ℕ
      forgot = filter (is_cell_in (tick_told s.cluster met now).forgot) (cells s.cluster)

      present : Option Epoch
      present = epoch_after (start_of met) s.cluster.cells (coordinator_calls s.cluster met)

      ticking : Agrees (start_of met) s.cluster.cells (CoordinatorTicks now ∷ coordinator_calls s.cluster met) (after_serving (lost_note (tick_told s.cluster met now).lost) (serving_met met))
          (λ group. after_valid group (lost_note (tick_told s.cluster met now).lost) (valid_met met group))
      ticking = tick_agrees (start_of met) s.cluster.cells (coordinator_calls s.cluster met) (serving_met met) (valid_met met) a now

      by : (f : Bool) → f ≡ true → AgreesAt s.cluster (onto (cond f (forget_notes present forgot ++ lost_note (tick_told s.cluster met now).lost) []) (Ticks now ∷ met))
      by true h = agrees_noted s.cluster (forget_notes present forgot ++ lost_note (tick_told s.cluster met now).lost) (Ticks now ∷ met)
          (each_both IsNoCall (forget_notes present forgot) (lost_note (tick_told s.cluster met now).lost) (forgets_no_call present forgot) (lost_no_call (tick_told s.cluster met now).lost)) (record {
            serves = forgets_serving present forgot (lost_note (tick_told s.cluster met now).lost) (serving_met met) ∙ ticking.serves;
            groups = λ group. forgets_valid group present forgot (lost_note (tick_told s.cluster met now).lost) (valid_met met group) ∙ ticking.groups group;
          })
      by false h = cc

  ticked_agrees : (met : List Met) (now : ℕ) → AgreesAt s.cluster met → AgreesAt s.cluster (onto (lapse_notes s met now) (onto (lease_notes s met now) (Ticks now ∷ met)))
  ticked_agrees met now a = agrees_same s.cluster (onto (lapse_notes s met now) (onto (lease_notes s met now) (Ticks now ∷ met))) (onto (lease_notes s met now) (Ticks now ∷ met))
      (neutral_all s.cluster (lapse_notes s met now) (onto (lease_notes s met now) (Ticks now ∷ met)) (lapse_neutral s met now)) (lease_agrees met now a)

-- ---- operations

abbrev IsValidate : Met → Type 0
IsValidate (Validates group position) = Unit {0}
IsValidate _ = ⊥

record Holds (c : Cluster) (base : List Met) (now : Now) : Type 0 where
  met_is : now.met ≡ onto now.valid base
  valid : Each IsValidate now.valid
  answers : Each IsAnswer now.answers
  agrees : AgreesAt c now.met

module _ (s : Setting) (base : List Met) where
  ends_holds : (now : Now) (id : OpId) (answer : Answer) → Holds s.cluster base now → Holds s.cluster base (ends now id answer)
  ends_holds now id answer h = record { met_is = h.met_is; valid = h.valid; answers = each_both IsAnswer now.answers (Answers id answer ∷ []) h.answers (tt, tt); agrees = h.agrees }

  validates_holds : (now : Now) (stored : GroupId → ℕ) (group : GroupId) (p : ℕ) (noted : Epoch) (refusal : Option NotValid) → refused_at s.cluster now.met group p noted ≡ refusal → Holds s.cluster base now
      → Holds s.cluster base (validated_by (record { met = now.met; stored = stored; kept = now.kept; valid = now.valid; answers = now.answers; sends = now.sends }) group p refusal)
  validates_holds now stored group p noted (Some why) is h = record { met_is = h.met_is; valid = h.valid; answers = h.answers; agrees = h.agrees }
  validates_holds now stored group p noted None is h = record {
    met_is = ap (λ met. Validates group p ∷ met) h.met_is ∙ sym (onto_append now.valid (Validates group p ∷ []) base);
    valid = each_both IsValidate now.valid (Validates group p ∷ []) h.valid (tt, tt);
    answers = h.answers;
    agrees = valid_agrees (start_of now.met) s.cluster.cells (coordinator_calls s.cluster now.met) (serving_met now.met) (valid_met now.met) h.agrees group p noted is;
  }

  completes_holds : (now : Now) (o : Operation) (group : GroupId) (noted : Option Epoch) (asked : List ℕ) (p : ℕ) (search : Option Search) → Holds s.cluster base now
      → Holds s.cluster base (completes_read s now group (record { noted = noted; asked = asked; stage = Catching p search }) p)
  completes_holds now o group None asked p search h = record { met_is = h.met_is; valid = h.valid; answers = h.answers; agrees = h.agrees }
  completes_holds now o group (Some noted) asked p search h = validates_holds now _ group p noted (refused_at s.cluster now.met group p noted) refl h

  walks : Walks s (λ op now. Holds s.cluster base now) (λ op now. Holds s.cluster base now) (λ now o. Holds s.cluster base now)
  walks = record {
    keeps_it = λ now o h. record { met_is = h.met_is; valid = h.valid; answers = h.answers; agrees = h.agrees };
    ends_it = λ now o answer h. ends_holds now o.id answer h;
    completes_it = λ now o group noted asked p search all h. completes_holds now o group noted asked p search h;
    seeks_it = λ now o group r least h. record { met_is = h.met_is; valid = h.valid; answers = h.answers; agrees = h.agrees };
    asks_it = λ now o group noted asked p search leader own promised h. record { met_is = h.met_is; valid = h.valid; answers = h.answers; agrees = h.agrees };
    visits_it = λ now o before r group message h. record { met_is = h.met_is; valid = h.valid; answers = h.answers; agrees = h.agrees };
    first_it = λ now id request clock group message h. record { met_is = h.met_is; valid = h.valid; answers = h.answers; agrees = h.agrees };
    ends_first = λ now id answer h. ends_holds now id answer h;
  }

  turn_holds : (now : Now) (t : Heard) → Holds s.cluster base now → Holds s.cluster base (acts_in_turn s now t)
  turn_holds now t h = goes_on_it s (λ op next. Holds s.cluster base next) (λ op next. Holds s.cluster base next) (λ next o. Holds s.cluster base next) walks (sends_more now t.sends) t.operation
      (record { met_is = h.met_is; valid = h.valid; answers = h.answers; agrees = h.agrees })

  all_hold : (ts : List Heard) (now : Now) → Holds s.cluster base now → Holds s.cluster base (all_act s now ts)
  all_hold [] now h = h
  all_hold (t ∷ ts) now h = all_hold ts (acts_in_turn s now t) (turn_holds now t h)

  ticks_hold : (clock : ℕ) (os : List Operation) (now : Now) → Holds s.cluster base now → Holds s.cluster base (fold (ticked s clock) now os)
  ticks_hold clock [] now h = h
  ticks_hold clock (o ∷ os) now h = ticks_hold clock os (ticked s clock now o) (by (is_out s clock o))
    where
      by : (t : Bool) → Holds s.cluster base (cond t (ends now o.id (last_answer o)) (acts_in_turn s now (does_due s clock o)))
      by true = ends_holds now o.id (last_answer o) h
      by false = turn_holds now (does_due s clock o) h

  begins_hold : (now : Now) (id : OpId) (request : Request) (clock : ℕ) (refusal : Option Answer) → Holds s.cluster base now → Holds s.cluster base (unless_refused s now (new_operation id request clock) refusal)
  begins_hold now id request clock refusal h = begun_it s (λ op next. Holds s.cluster base next) (λ op next. Holds s.cluster base next) (λ next o. Holds s.cluster base next) walks now id clock request refusal (λ none. h) (λ answer. ends_holds now id answer h)

-- ---- steps

valid_same : (c : Cluster) (notes one two : List Met) → Each IsValidate notes → SameTo c one two → SameTo c (onto notes one) (onto notes two)
valid_same c [] one two v s = s
valid_same c (Validates g p ∷ notes) one two v s = valid_same c notes (Validates g p ∷ one) (Validates g p ∷ two) v.1 (record {
  start = s.start;
  calls = λ i. validated g p (serving (s.start i) c.cells (s.calls i)) ++ s.calls i;
  serving = s.serving;
  valid = λ group. ap (λ x. cond (same_group g group) true x) (s.valid group);
})
valid_same c (_ ∷ notes) one two v s = absurd v.0

-- what a step leaves
step_holds : (s : Setting) (first locks durable applies : List Met) (sends : List Message) (now : Now) → Holds s.cluster (onto durable (onto locks first)) now → Each IsNeutral applies
    → AgreesAt s.cluster (onto (map Sends sends) (onto ((((locks ++ durable) ++ applies) ++ now.valid) ++ now.answers) first))
step_holds s first locks durable applies sends now h neutral =
    subst (λ met. AgreesAt s.cluster (onto (map Sends sends) met)) (sym spread)
    (agrees_same s.cluster (onto (map Sends sends) (onto now.answers (onto now.valid (onto applies base)))) now.met
    (same_then s.cluster (onto (map Sends sends) (onto now.answers (onto now.valid (onto applies base)))) (onto now.answers (onto now.valid (onto applies base))) now.met
    (neutral_all s.cluster (map Sends sends) (onto now.answers (onto now.valid (onto applies base))) (sends_neutral sends))
    (same_then s.cluster (onto now.answers (onto now.valid (onto applies base))) (onto now.valid (onto applies base)) now.met
    (neutral_all s.cluster now.answers (onto now.valid (onto applies base)) (answers_neutral now.answers h.answers))
    (subst (SameTo s.cluster (onto now.valid (onto applies base))) (sym h.met_is) (valid_same s.cluster now.valid (onto applies base) base h.valid (neutral_all s.cluster applies base neutral))))) h.agrees)
  where
    base : List Met
    base = onto durable (onto locks first)

    spread : onto ((((locks ++ durable) ++ applies) ++ now.valid) ++ now.answers) first ≡ onto now.answers (onto now.valid (onto applies (onto durable (onto locks first))))
    spread = onto_append (((locks ++ durable) ++ applies) ++ now.valid) now.answers first
        ∙ ap (onto now.answers) (onto_append ((locks ++ durable) ++ applies) now.valid first ∙ ap (onto now.valid) (onto_append (locks ++ durable) applies first ∙ ap (onto applies) (onto_append locks durable first)))

module _ (s : Setting) (full : is_full s.cluster s.me ≡ true) (node : Node) (a : AgreesAt s.cluster node.met) where
  taken_step : (m : Message) (ts : List Heard) (d : Option Decision) (reply told_news : List Message) → AgreesAt s.cluster ((taken s node m (told_notes s node.met m.from m.body) ts d reply told_news).node).met
  taken_step m ts d reply told_news = step_holds s (Takes m ∷ node.met) (told_notes s node.met m.from m.body) (decision_note d) (apply_notes s node.met node.stored now.met now.stored) ((reply ++ told_news) ++ now.sends) now
      (all_hold s base ts (at_first base (stored_after s base node.stored d)) (record { met_is = refl; valid = tt; answers = tt; agrees = taken_agrees s full node.met m d a }))
      (apply_neutral s node.met node.stored now.met now.stored)
    where
      base : List Met
      base = onto (decision_note d) (onto (told_notes s node.met m.from m.body) (Takes m ∷ node.met))

      now : Now
      now = all_act s (at_first base (stored_after s base node.stored d)) ts

  take_agrees : (m : Message) → AgreesAt s.cluster ((take_step s node m).node).met
  take_agrees m = by (told_decision m.body)
    where
      ts : List Heard
      ts = map (hears_message s (clock_of node.met) m) node.open_operations

      by : (told : Option Decision) → AgreesAt s.cluster ((take_by s node m ts told).node).met
      by (Some d) = taken_step m ts (if_new node.met (Some d)) (reply_to s.cluster s.me node.met m) []
      by None = taken_step m ts (if_new node.met (first_settled ts)) (reply_to s.cluster s.me node.met m) (news s (if_new node.met (first_settled ts)))

  tick_step_agrees : (clock : ℕ) → AgreesAt s.cluster ((tick_step s node clock).node).met
  tick_step_agrees clock = step_holds s (Ticks clock ∷ node.met) (lease_notes s node.met clock) (lapse_notes s node.met clock) (apply_notes s node.met node.stored now.met now.stored)
      ((acquires_at s.cluster s.me node.met clock ++ now.sends) ++ background s node.met clock) now
      (ticks_hold s base clock node.open_operations (at_first base (portion_of s node.met node.stored)) (record { met_is = refl; valid = tt; answers = tt; agrees = ticked_agrees s full node.met clock a }))
      (apply_neutral s node.met node.stored now.met now.stored)
    where
      base : List Met
      base = onto (lapse_notes s node.met clock) (onto (lease_notes s node.met clock) (Ticks clock ∷ node.met))

      now : Now
      now = fold (ticked s clock) (at_first base (portion_of s node.met node.stored)) node.open_operations

  begin_agrees : (request : Request) (text : List ℕ) → AgreesAt s.cluster ((begin_step s node request text).node).met
  begin_agrees request text = step_holds s (Begins (op_of s node.met) text ∷ node.met) [] [] (apply_notes s node.met node.stored now.met now.stored) now.sends now
      (begins_hold s (Begins (op_of s node.met) text ∷ node.met) begin (op_of s node.met) request (clock_of node.met) (refusal s node request) (record { met_is = refl; valid = tt; answers = tt; agrees = record { serves = a.serves; groups = a.groups } }))
      (apply_neutral s node.met node.stored now.met now.stored)
    where
      begin : Now
      begin = at_open (at_first (Begins (op_of s node.met) text ∷ node.met) node.stored) node.open_operations

      now : Now
      now = unless_refused s begin (new_operation (op_of s node.met) request (clock_of node.met)) (refusal s node request)

  pub step_agrees : (event : Event) → AgreesAt s.cluster ((step s node event).node).met
  step_agrees (Tick clock) = tick_step_agrees clock
  step_agrees (Take m) = take_agrees m
  step_agrees (Begin request text) = begin_agrees request text
