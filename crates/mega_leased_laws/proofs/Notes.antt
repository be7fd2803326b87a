-- A step of a node: what it notes first, and where each message that it sends comes from.
use Rattle.std.proofs.Common.{append_assoc, ◌∙◌, ◌≡◌, ◌⊎◌, inl, inr, List, [], ◌∷◌, ◌++◌, map, fold, Option, Some, None, refl}
use Rattle.std.specs.List.{All}
use Rattle.std.proofs.lemmas.List.Elements.{All-nil}
use Rattle.mega_wire.specs.declared.message.Message.{Message}
use Rattle.mega_wire.specs.declared.message.Body.{Body}
use Rattle.mega_lease_laws.specs.of_run_laws.of_tape_laws.of_promises.of_rules.Met.{Met, Answers, Applies, Begins, Decides, Takes, Ticks, Validates}
use Rattle.mega_lease_laws.specs.of_run_laws.of_tape_laws.of_promises.of_rules.Clock.{clock_of}
use Rattle.mega_lease_laws.specs.of_run_laws.of_tape_laws.of_promises.of_rules.Coordinators.{acquires_at}
use Rattle.mega_lease_laws.specs.of_run_laws.of_tape_laws.of_promises.of_rules.Operations.{Node, Now, Setting}
use Rattle.mega_lease_laws.specs.of_run_laws.of_tape_laws.of_promises.of_rules.Replies.{answer_to, reply_message, reply_to}
use Rattle.mega_lease_laws.specs.of_run_laws.of_tape_laws.of_promises.of_rules.Steps.{Begin, Decision, Event, Heard, Take, Tick, all_act, at_first, at_open, background, decision_note, first_settled, hears_message, if_new, lapse_notes, lease_notes, new_operation, news, onto, op_of, portion_of, refusal, step, stored_after, taken, ticked, told_decision, told_notes}
use Rattle.mega_lease_laws.specs.of_run_laws.Justified.{Each}
use Rattle.mega_lease_laws.proofs.of_run_laws.Events.{each_append as each_both}
use Rattle.mega_lease_laws.specs.Questions.{Asks}
use Rattle.mega_lease_laws.proofs.of_node_laws.Acting.{background_hold, news_hold}
use Rattle.mega_lease_laws.proofs.of_node_laws.Walk.{AllSent, IsHeard, all_act_it as all_ask, all_heard_hold, all_ticked_it as all_ticked_ask, begun_it as begun_ask, sent_lasts}
use Rattle.mega_lease_laws.proofs.Acting.{Acquires, acquires_are, asks_act, asks_cover}
use Rattle.mega_lease_laws.proofs.of_run_laws.Turns.{each_on}
use Rattle.mega_lease_laws.proofs.of_run_laws.Whole.{take_by}
use Rattle.mega_leased_laws.proofs.Tapes.{each_all}
use Rattle.mega_leased_laws.proofs.Tails.{IsTail, Parted, decision_in, front_of, fronts, step_parted}

-- ---- notes

-- decisions, what is applied, validates and answers
abbrev pub IsRest : Met → Type 0
IsRest (Decides group position entry) = Unit {0}
IsRest (Applies group position) = Unit {0}
IsRest (Validates group position) = Unit {0}
IsRest (Answers op answer) = Unit {0}
IsRest _ = ⊥

-- and behind that only the rest
pub record Behind (front notes : List Met) : Type 0 where
  pub rest : List Met
  pub is : notes ≡ front ++ rest
  pub each : Each IsRest rest

decision_rest : (d : Option Decision) → Each IsRest (decision_note d)
decision_rest None = tt
decision_rest (Some d) = (tt, tt)

tail_rest : (notes : List Met) → Each IsTail notes → Each IsRest notes
tail_rest notes h = each_on IsTail IsRest one notes h
  where
    one : (note : Met) → IsTail note → IsRest note
    one (Applies group position) is = tt
    one (Validates group position) is = tt
    one (Answers op answer) is = tt
    one _ is = absurd is

pub step_parts : (s : Setting) (node : Node) (event : Event) → Behind (fronts s node event) (step s node event).notes
step_parts s node (Tick clock) = let p = step_parted s node (Tick clock) in record { rest = p.rest; is = p.is; each = tail_rest p.rest p.each }
step_parts s node (Begin request text) = let p = step_parted s node (Begin request text) in record { rest = p.rest; is = p.is; each = tail_rest p.rest p.each }
step_parts s node (Take m) = record {
  rest = decision ++ p.rest;
  is = p.is ∙ append_assoc (told_notes s node.met m.from m.body) decision p.rest;
  each = each_both IsRest decision p.rest (decision_rest (decision_in s node m (told_decision m.body))) (tail_rest p.rest p.each);
}
  where
    p : Parted (front_of s node (Take m)) (step s node (Take m)).notes
    p = step_parted s node (Take m)

    decision : List Met
    decision = decision_note (decision_in s node m (told_decision m.body))

-- ---- messages

pub record Replied (s : Setting) (met : List Met) (q m : Message) : Type 0 where
  pub from : m.from ≡ s.me
  pub to : m.to ≡ q.from
  pub body : answer_to s.cluster s.me met q.from q.body ≡ Some m.body

-- a message of a step is a question, the reply to what the step takes, or it asks a cell for the present epoch
abbrev pub Origin : Setting → List Met → Event → Message → Type 0
Origin s met (Take q) m = Asks m ⊎ Replied s met q m
Origin s met (Tick now) m = Asks m ⊎ Acquires s.cluster s.me met now m
Origin s met (Begin request text) m = Asks m ⊎ ⊥

reply_origin : (s : Setting) (met : List Met) (q : Message) (o : Option Body) → answer_to s.cluster s.me met q.from q.body ≡ o → Each (Origin s met (Take q)) (reply_message s.me q.from o)
reply_origin s met q None is = tt
reply_origin s met q (Some body) is = (inr (record { from = refl; to = refl; body = is }), tt)

module _ (s : Setting) (node : Node) where
  asks_origin : (event : Event) (ms : List Message) → All Asks ms → Each (Origin s node.met event) ms
  asks_origin (Take q) ms h = each_all Asks (Origin s node.met (Take q)) (λ m a. inl a) ms h
  asks_origin (Tick now) ms h = each_all Asks (Origin s node.met (Tick now)) (λ m a. inl a) ms h
  asks_origin (Begin request text) ms h = each_all Asks (Origin s node.met (Begin request text)) (λ m a. inl a) ms h

  taken_origins : (m : Message) (ts : List Heard) (d : Option Decision) (told_news : List Message) → All (IsHeard Asks ⊥) ts → All Asks told_news
      → Each (Origin s node.met (Take m)) (taken s node m (told_notes s node.met m.from m.body) ts d (reply_to s.cluster s.me node.met m) told_news).sends
  taken_origins m ts d told_news heard news_asks =
      each_both (Origin s node.met (Take m)) (reply_to s.cluster s.me node.met m ++ told_news) now.sends
      (each_both (Origin s node.met (Take m)) (reply_to s.cluster s.me node.met m) told_news (reply_origin s node.met m (answer_to s.cluster s.me node.met m.from m.body) refl) (asks_origin (Take m) told_news news_asks))
      (asks_origin (Take m) now.sends (all_ask Asks (AllSent Asks) ⊥ (sent_lasts Asks) s (asks_act s) ts (at_first base (stored_after s base node.stored d)) heard (All-nil Asks)))
    where
      base : List Met
      base = onto (decision_note d) (onto (told_notes s node.met m.from m.body) (Takes m ∷ node.met))

      now : Now
      now = all_act s (at_first base (stored_after s base node.stored d)) ts

  pub step_origins : (event : Event) → Each (Origin s node.met event) (step s node event).sends
  step_origins (Take m) = by (told_decision m.body)
    where
      ts : List Heard
      ts = map (hears_message s (clock_of node.met) m) node.open_operations

      by : (told : Option Decision) → Each (Origin s node.met (Take m)) (take_by s node m ts told).sends
      by (Some d) = taken_origins m ts (if_new node.met (Some d)) [] (all_heard_hold Asks s (asks_act s) (clock_of node.met) m node.open_operations) (All-nil Asks)
      by None = taken_origins m ts (if_new node.met (first_settled ts)) (news s (if_new node.met (first_settled ts))) (all_heard_hold Asks s (asks_act s) (clock_of node.met) m node.open_operations) (news_hold Asks s (asks_act s) (if_new node.met (first_settled ts)))
  step_origins (Tick clock) =
      each_both (Origin s node.met (Tick clock)) (acquires_at s.cluster s.me node.met clock ++ now.sends) (background s node.met clock)
      (each_both (Origin s node.met (Tick clock)) (acquires_at s.cluster s.me node.met clock) now.sends
      (each_all (Acquires s.cluster s.me node.met clock) (Origin s node.met (Tick clock)) (λ m a. inr a) (acquires_at s.cluster s.me node.met clock) (acquires_are s.cluster s.me node.met clock))
      (asks_origin (Tick clock) now.sends (all_ticked_ask Asks (AllSent Asks) ⊥ (sent_lasts Asks) s (asks_act s) (asks_cover s) clock node.open_operations (at_first base (portion_of s node.met node.stored)) (λ impossible. absurd impossible) (All-nil Asks))))
      (asks_origin (Tick clock) (background s node.met clock) (background_hold Asks s (asks_act s) node.met clock))
    where
      base : List Met
      base = onto (lapse_notes s node.met clock) (onto (lease_notes s node.met clock) (Ticks clock ∷ node.met))

      now : Now
      now = fold (ticked s clock) (at_first base (portion_of s node.met node.stored)) node.open_operations
  step_origins (Begin request text) = asks_origin (Begin request text) (step s node (Begin request text)).sends
      (begun_ask Asks (AllSent Asks) ⊥ (sent_lasts Asks) s (asks_act s) (at_open (at_first (Begins (op_of s node.met) text ∷ node.met) node.stored) node.open_operations) (new_operation (op_of s node.met) request (clock_of node.met)) (refusal s node request) (All-nil Asks))
