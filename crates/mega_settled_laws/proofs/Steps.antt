-- A step of a node: what its open operations know afterwards, what it sends, and why it decides.
use Rattle.std.proofs.Common.{◌≡◌, ℕ, ◌==◌, ◌&&◌, ◌≤◌, ◌<◌, nat_lt, Bool, true, false, cond, List, [], ◌∷◌, ◌++◌, map, flat_map, fold, Option, Some, None, is_none, refl, sym, ◌∙◌, subst, arith}
use Rattle.std.proofs.lemmas.Bool.{or_from, and_parts}
use Rattle.mega_base.specs.declared.names.Epoch.{Epoch}
use Rattle.mega_base.specs.declared.names.GroupId.{GroupId}
use Rattle.mega_base.specs.declared.names.NodeId.{NodeId}
use Rattle.mega_base.specs.declared.names.OpId.{OpId}
use Rattle.mega_base.specs.declared.names.Position.{Position}
use Rattle.mega_ballot.specs.declared.ballot.Ballot.{Ballot}
use Rattle.mega_cluster.specs.declared.cluster.Cluster.{Cluster}
use Rattle.mega_coordinator.specs.History.{Call, Ticks as CoordinatorTicks, counted_cells, epoch_after, serving}
use Rattle.mega_coordinator.specs.declared.answers.NotValid.{NotValid}
use Rattle.mega_entry.specs.declared.content.Content.{Content}
use Rattle.mega_locks.specs.declared.asked.Asked.{Asked}
use Rattle.mega_locks.specs.declared.asked.Asked.TheVariants.{Granted as Grant, Renewed, GreaterHeld, Over}
use Rattle.mega_outcome.specs.declared.request.Request.{Request}
use Rattle.mega_run_laws.specs.of_rules.of_read.of_propose.Members.{others}
use Rattle.mega_wal.specs.Acceptor.{accept_answer, promise_answer}
use Rattle.mega_wal.specs.declared.answers.Promised.{Promised as PromiseAnswer}
use Rattle.mega_wal.specs.declared.answers.Promised.TheVariants as promise
use Rattle.mega_wal.specs.declared.answers.Voted.{Voted as AcceptAnswer}
use Rattle.mega_wal.specs.declared.answers.Voted.TheVariants as vote
use Rattle.mega_wire.specs.declared.message.Message.{Message}
use Rattle.mega_wire.specs.declared.message.Body.{Body}
use Rattle.mega_wire.specs.declared.message.Body.TheVariants.{Where, Top, Accept, Prepare, Invalidate, Invalidated, Dead, Unheld, Fetch, Acquire, Decide as Tell, Have}
use Rattle.mega_run_laws.specs.of_transcript.declared.item.Item.{Item}
use Rattle.mega_run_laws.specs.of_rules.Met.{Met, Begins, Decides, Takes, Ticks, Validates, Answers}
use Rattle.mega_run_laws.specs.of_rules.Clock.{clock_of, does_again, start_of, ticks_of}
use Rattle.mega_run_laws.specs.of_rules.Coordinators.{acquire_to, acquires, acquires_at, asked_cells, coordinator_calls}
use Rattle.mega_run_laws.specs.of_rules.Locks.{asked_for, held_answer, held_at, lock_answer}
use Rattle.mega_run_laws.specs.of_rules.Logs.{decided, groups_of, newest_of, prefix_of, top_of}
use Rattle.mega_run_laws.specs.of_rules.Members.{has_rows, is_cell, is_full, is_voter, nodes, voters}
use Rattle.mega_run_laws.specs.of_rules.Operations.{Node, Now, Operation, Setting}
use Rattle.mega_run_laws.specs.of_rules.Acting.{validated_by}
use Rattle.mega_run_laws.specs.of_rules.Replies.{answer_to, fetched, reply_message, reply_to, where_served}
use Rattle.mega_run_laws.specs.of_rules.Steps.{Decision, Heard, Step, all_act, apply_notes, at_first, at_open, background, begin_step, decide_to, decision_note, fetch_to, fetches_for, first_settled, hears_message, if_new, lapse_notes, lease_notes, new_operation, news, onto, op_of, portion_of, refusal, stored_after, take_step, taken, tick_step, ticked, told_decision, told_notes, unless_refused}
use Rattle.mega_run_laws.specs.of_rules.Voting.{acts, prepared, promise_body, vote_body, voted}
use Rattle.mega_run_laws.specs.of_tape_laws.Lawful.{message}
use Rattle.mega_run_laws.specs.of_tape_laws.Places.{Took}
use Rattle.mega_run_laws.specs.of_tape_laws.Writes.{has_begun}
use Rattle.mega_run_laws.proofs.of_tape_laws.Ballots.{number_is}
use Rattle.mega_run_laws.proofs.of_tape_laws.Lists.{some_is}
use Rattle.mega_run_laws.specs.Justified.{Each}
use Rattle.mega_run_laws.proofs.Events.{IsAnswer, IsPlain, apply_plain, each_append as each_both, lapses_plain, lease_plain, told_plain}
use Rattle.mega_run_laws.proofs.Noting.{Lasts, all_act_it, begun_it as begun_noted, ticked_it}
use Rattle.mega_run_laws.proofs.Opened.{at_place}
use Rattle.mega_run_laws.proofs.Turns.{IsRising, each_on}
use Rattle.mega_run_laws.proofs.Whole.{take_by}
use Rattle.mega_settled_laws.specs.Covering.{asks_about, has_asked_about}
use Rattle.mega_settled_laws.proofs.Tapes.{asks_both, asks_in}
use Rattle.mega_settled_laws.proofs.Settle.{AreOfCells, Cause, CauseOf, by_answer, by_news, first_settles}
use Rattle.mega_settled_laws.proofs.Turns.{Acted, AllActed, OpenBelow, Own, OwnBody, Opens, all_heard_acted, all_ticked_acted, begins_acted}

-- ---- what a node sends by itself, and its reply

-- it asks no cell about a node; and where it says that a cell holds nothing, it is a cell
abbrev PlainBody : Cluster → Body → Type 0
PlainBody c (Dead op cell about) = ⊥
PlainBody c (Unheld op cell about) = is_cell c cell ≡ true
PlainBody c _ = Unit {0}

record Plain (c : Cluster) (me : ℕ) (m : Message) : Type 0 where
  from : m.from ≡ me
  body : PlainBody c m.body

plain_own : (c : Cluster) (tape : List Item) (me k : ℕ) (m : Message) → Plain c me m → Own c tape me k m
plain_own c tape me k m h = record { from = h.from; body = by m.body h.body }
  where
    by : (body : Body) → PlainBody c body → OwnBody c tape me k body
    by (Dead op cell about) none = absurd none
    by (Unheld op cell about) is = is
    by _ is = tt

plain_silent : (c : Cluster) (me : ℕ) (ms : List Message) (op : OpId) (node : ℕ) → Each (Plain c me) ms → asks_in ms op node ≡ false
plain_silent c me [] op node h = refl
plain_silent c me (m ∷ ms) op node h = or_from (asks_about op node m.body) (asks_in ms op node) (by m.body (h.0).body) (plain_silent c me ms op node h.1)
  where
    by : (body : Body) → PlainBody c body → asks_about op node body ≡ false
    by (Dead op cell about) none = absurd none
    by _ is = refl

plain_map : {X : Type 0} (c : Cluster) (me : ℕ) (f : X → Message) → ((x : X) → Plain c me (f x)) → (xs : List X) → Each (Plain c me) (map f xs)
plain_map c me f h [] = tt
plain_map c me f h (x ∷ xs) = (h x, plain_map c me f h xs)

plain_flat : {X : Type 0} (c : Cluster) (me : ℕ) (f : X → List Message) → ((x : X) → Each (Plain c me) (f x)) → (xs : List X) → Each (Plain c me) (flat_map f xs)
plain_flat c me f h [] = tt
plain_flat c me f h (x ∷ xs) = each_both (Plain c me) (f x) (flat_map f xs) (h x) (plain_flat c me f h xs)

plain_if : (c : Cluster) (me : ℕ) (t : Bool) (ms : List Message) → Each (Plain c me) ms → Each (Plain c me) (cond t ms [])
plain_if c me true ms h = h
plain_if c me false ms h = tt

abbrev PlainAnswer : Cluster → Option Body → Type 0
PlainAnswer c None = Unit {0}
PlainAnswer c (Some body) = PlainBody c body

served : (c : Cluster) (t : Bool) (body : Body) → PlainBody c body → PlainAnswer c (where_served t body)
served c true body is = is
served c false body is = tt

prepared_plain : (c : Cluster) (op : OpId) (group : GroupId) (n : Position) (b : Ballot) (a : PromiseAnswer) → PlainBody c (promise_body op group n b a)
prepared_plain c op group n b (promise.Yes report) = tt
prepared_plain c op group n b (promise.Shown greater) = tt

voted_plain : (c : Cluster) (op : OpId) (group : GroupId) (n : Position) (b : Ballot) (e : Content) (a : AcceptAnswer) → PlainBody c (vote_body op group n b e a)
voted_plain c op group n b e vote.Yes = tt
voted_plain c op group n b e (vote.Shown greater) = tt
voted_plain c op group n b e (vote.Other other) = tt

fetched_plain : (c : Cluster) (op : OpId) (group : GroupId) (n : Position) (found : Option Content) → PlainBody c (fetched op group n found)
fetched_plain c op group n None = tt
fetched_plain c op group n (Some entry) = tt

lock_plain : (c : Cluster) (cell : ℕ) (epoch : Epoch) (clock : ℕ) (asked : Asked) → PlainBody c (lock_answer cell epoch clock asked)
lock_plain c cell epoch clock Grant = tt
lock_plain c cell epoch clock Renewed = tt
lock_plain c cell epoch clock (GreaterHeld greatest) = tt
lock_plain c cell epoch clock (Over greatest) = tt

held_plain : (c : Cluster) (me : ℕ) (op : OpId) (cell : ℕ) (node : NodeId) (held : Option Epoch) (t : Bool) → (cell == me && is_cell c me) ≡ t → PlainAnswer c (where_served t (held_answer op cell node held))
held_plain c me op cell node held false e = tt
held_plain c me op cell node (Some epoch) true e = tt
held_plain c me op cell node None true e = let parts = and_parts (cell == me) (is_cell c me) e in subst (λ v. is_cell c v ≡ true) (sym (number_is cell me parts.0)) parts.1

answer_plain : (c : Cluster) (me : ℕ) (met : List Met) (from : ℕ) (body : Body) → PlainAnswer c (answer_to c me met from body)
answer_plain c me met from (Where op group) = served c (is_voter c me) (Top op group (record { 0 = top_of met group })) tt
answer_plain c me met from (Accept op group n b e) = served c (is_voter c me) (voted (acts met group n.0) op group n b e) (voted_plain c op group n b e (accept_answer (acts met group n.0) b e))
answer_plain c me met from (Prepare op group n b) = served c (is_voter c me) (prepared (acts met group n.0) op group n b) (prepared_plain c op group n b (promise_answer (acts met group n.0) b))
answer_plain c me met from (Fetch op group n) = served c (is_voter c me) (fetched op group n (decided met group n.0)) (fetched_plain c op group n (decided met group n.0))
answer_plain c me met from (Invalidate op group n) = served c (is_full c me) (Invalidated op group n) tt
answer_plain c me met from (Dead op cell node) = held_plain c me op cell node (held_at c me met node.0) (cell == me && is_cell c me) refl
answer_plain c me met from (Acquire cell epoch clock) = served c (cell == me && is_cell c me) (lock_answer cell epoch clock (asked_for c me met from epoch)) (lock_plain c cell epoch clock (asked_for c me met from epoch))
answer_plain c me met from _ = tt

message_plain : (c : Cluster) (me to : ℕ) (o : Option Body) → PlainAnswer c o → Each (Plain c me) (reply_message me to o)
message_plain c me to None h = tt
message_plain c me to (Some body) h = (record { from = refl; body = h }, tt)

reply_plain : (c : Cluster) (me : ℕ) (met : List Met) (m : Message) → Each (Plain c me) (reply_to c me met m)
reply_plain c me met m = message_plain c me m.from (answer_to c me met m.from m.body) (answer_plain c me met m.from m.body)

news_plain : (s : Setting) (d : Option Decision) → Each (Plain s.cluster s.me) (news s d)
news_plain s None = tt
news_plain s (Some d) = plain_map s.cluster s.me (decide_to s.me d) (λ to. record { from = refl; body = tt }) (others s.me (nodes s.cluster))

background_plain : (s : Setting) (met : List Met) (now : ℕ) → Each (Plain s.cluster s.me) (background s met now)
background_plain s met now =
    plain_if s.cluster s.me (has_rows s.cluster s.me && does_again s.cluster.retry (ticks_of met) now) (flat_map (fetches_for s met) (groups_of met))
    (plain_flat s.cluster s.me (fetches_for s met)
    (λ group. plain_if s.cluster s.me (nat_lt (prefix_of met group) (newest_of met group)) (map (fetch_to s met group) (others s.me (voters s.cluster))) (plain_map s.cluster s.me (fetch_to s met group) (λ to. record { from = refl; body = tt }) (others s.me (voters s.cluster))))
    (groups_of met))

acquires_plain : (c : Cluster) (me : ℕ) (calls : List Call) (start now : ℕ) (epoch : Option Epoch) → Each (Plain c me) (acquires c me calls start now epoch)
acquires_plain c me calls start now None = tt
acquires_plain c me calls start now (Some epoch) =
    plain_map c me (acquire_to me epoch now) (λ cell. record { from = refl; body = tt }) (asked_cells c (counted_cells start c.cells calls) (serving start c.cells calls))

acquires_at_plain : (c : Cluster) (me : ℕ) (met : List Met) (now : ℕ) → Each (Plain c me) (acquires_at c me met now)
acquires_at_plain c me met now =
    plain_if c me (is_full c me && does_again c.retry (ticks_of met) now)
    (acquires c me (CoordinatorTicks now ∷ coordinator_calls c met) (start_of met) now (epoch_after (start_of met) c.cells (CoordinatorTicks now ∷ coordinator_calls c met)))
    (acquires_plain c me (CoordinatorTicks now ∷ coordinator_calls c met) (start_of met) now (epoch_after (start_of met) c.cells (CoordinatorTicks now ∷ coordinator_calls c met)))

-- ---- notes

-- why a node notes something: a decision has its cause
abbrev pub NoteCause : Cluster → List Item → ℕ → Met → Type 0
NoteCause c tape me (Decides group n entry) = Cause c tape me (at_place group n) entry
NoteCause c tape me _ = Unit {0}

plain_cause : (c : Cluster) (tape : List Item) (me : ℕ) (one : Met) → IsPlain one → NoteCause c tape me one
plain_cause c tape me (Decides group n entry) h = absurd h
plain_cause c tape me _ h = tt

answer_cause : (c : Cluster) (tape : List Item) (me : ℕ) (one : Met) → IsAnswer one → NoteCause c tape me one
answer_cause c tape me (Decides group n entry) h = absurd h
answer_cause c tape me _ h = tt

plain_causes : (c : Cluster) (tape : List Item) (me : ℕ) (notes : List Met) → Each IsPlain notes → Each (NoteCause c tape me) notes
plain_causes c tape me notes h = each_on IsPlain (NoteCause c tape me) (plain_cause c tape me) notes h

record Noted (now : Now) : Type 0 where
  valid : Each IsPlain now.valid
  answers : Each IsAnswer now.answers

noted_lasts : Lasts Noted
noted_lasts = record {
  keeps_it = λ now o h. record { valid = h.valid; answers = h.answers };
  ends_it = λ now op answer h. record { valid = h.valid; answers = each_both IsAnswer now.answers (Answers op answer ∷ []) h.answers (tt, tt) };
  sends_it = λ now ms h. record { valid = h.valid; answers = h.answers };
  stores_it = λ now stored h. record { valid = h.valid; answers = h.answers };
  validates_it = λ now group p refusal h. validated now group p refusal h;
}
  where
    validated : (now : Now) (group : GroupId) (p : ℕ) (refusal : Option NotValid) → Noted now → Noted (validated_by now group p refusal)
    validated now group p (Some why) h = h
    validated now group p None h = record { valid = each_both IsPlain now.valid (Validates group p ∷ []) h.valid (tt, tt); answers = h.answers }

step_causes : (c : Cluster) (tape : List Item) (me : ℕ) (locks durable applies : List Met) (now : Now) → Each IsPlain locks → Each (NoteCause c tape me) durable → Each IsPlain applies → Noted now
    → Each (NoteCause c tape me) ((((locks ++ durable) ++ applies) ++ now.valid) ++ now.answers)
step_causes c tape me locks durable applies now l d a n =
    each_both (NoteCause c tape me) (((locks ++ durable) ++ applies) ++ now.valid) now.answers
    (each_both (NoteCause c tape me) ((locks ++ durable) ++ applies) now.valid
    (each_both (NoteCause c tape me) (locks ++ durable) applies
    (each_both (NoteCause c tape me) locks durable (plain_causes c tape me locks l) d) (plain_causes c tape me applies a))
    (plain_causes c tape me now.valid n.valid))
    (each_on IsAnswer (NoteCause c tape me) (answer_cause c tape me) now.answers n.answers)

-- ---- steps

pub record StepKnows (s : Setting) (tape : List Item) (made : Step) : Type 0 where
  pub k : ℕ
  pub opens : Each (OpenBelow s.cluster tape made.sends s.me k) (made.node).open_operations
  pub own : Each (Own s.cluster tape s.me k) made.sends
  pub causes : Each (NoteCause s.cluster tape s.me) made.notes

-- what the node sends besides asks no cell
with_sends : (s : Setting) (tape : List Item) (k : ℕ) (now : Now) (before behind : List Message) → Acted s.cluster tape s.me k now → Each (Plain s.cluster s.me) before → Each (Plain s.cluster s.me) behind
    → Each (OpenBelow s.cluster tape ((before ++ now.sends) ++ behind) s.me k) now.kept × Each (Own s.cluster tape s.me k) ((before ++ now.sends) ++ behind)
with_sends s tape k now before behind a h j = (
  each_on (OpenBelow s.cluster tape now.sends s.me k) (OpenBelow s.cluster tape ((before ++ now.sends) ++ behind) s.me k) (λ o kept. record {
    node = kept.node;
    below = kept.below;
    begun = kept.begun;
    knowing = record {
      knows = (kept.knowing).knows;
      quiet = λ node x y. let was = (kept.knowing).quiet node x y in
          (was.0, asks_both (before ++ now.sends) behind o.id node (asks_both before now.sends o.id node (plain_silent s.cluster s.me before o.id node h) was.1) (plain_silent s.cluster s.me behind o.id node j));
    };
  }) now.kept a.kept,
  each_both (Own s.cluster tape s.me k) (before ++ now.sends) behind
      (each_both (Own s.cluster tape s.me k) before now.sends (each_on (Plain s.cluster s.me) (Own s.cluster tape s.me k) (plain_own s.cluster tape s.me k) before h) a.own)
      (each_on (Plain s.cluster s.me) (Own s.cluster tape s.me k) (plain_own s.cluster tape s.me k) behind j),
)

no_more : (s : Setting) (tape : List Item) (k : ℕ) (now : Now) (before : List Message) → Acted s.cluster tape s.me k now → Each (Plain s.cluster s.me) before
    → Each (OpenBelow s.cluster tape (before ++ now.sends) s.me k) now.kept × Each (Own s.cluster tape s.me k) (before ++ now.sends)
no_more s tape k now before a h = (
  each_on (OpenBelow s.cluster tape now.sends s.me k) (OpenBelow s.cluster tape (before ++ now.sends) s.me k) (λ o kept. record {
    node = kept.node;
    below = kept.below;
    begun = kept.begun;
    knowing = record {
      knows = (kept.knowing).knows;
      quiet = λ node x y. let was = (kept.knowing).quiet node x y in (was.0, asks_both before now.sends o.id node (plain_silent s.cluster s.me before o.id node h) was.1);
    };
  }) now.kept a.kept,
  each_both (Own s.cluster tape s.me k) before now.sends (each_on (Plain s.cluster s.me) (Own s.cluster tape s.me k) (plain_own s.cluster tape s.me k) before h) a.own,
)

-- a decision that is new has the cause of that decision
new_cause : (c : Cluster) (tape : List Item) (me : ℕ) (met : List Met) (d : Option Decision) → ((x : Decision) → d ≡ Some x → CauseOf c tape me x) → Each (NoteCause c tape me) (decision_note (if_new met d))
new_cause c tape me met None h = tt
new_cause c tape me met (Some d) h = by (is_none (decided met d.group d.position))
  where
    by : (t : Bool) → Each (NoteCause c tape me) (decision_note (cond t (Some d) None))
    by true = (h d refl, tt)
    by false = tt

told_cause : (c : Cluster) (tape : List Item) (me from : ℕ) (body : Body) → Took tape (message from me body) → (d : Decision) → told_decision body ≡ Some d → CauseOf c tape me d
told_cause c tape me from (Tell group n entry) took d is = subst (CauseOf c tape me) (some_is (record { group = group; position = n.0; entry = entry }) d is) (by_news from took)
told_cause c tape me from (Have op group n entry) took d is = subst (CauseOf c tape me) (some_is (record { group = group; position = n.0; entry = entry }) d is) (by_answer from op took)
told_cause c tape me from _ took d is = cc

module _ (s : Setting) (tape : List Item) (node : Node) (cells_of : AreOfCells s.cluster tape) (opens : Each (Opens s tape) node.open_operations) where
  taken_knows : (m : Message) (d : Option Decision) (told_news : List Message) → Took tape (message m.from s.me m.body) → IsRising 0 node.open_operations → Each (Plain s.cluster s.me) told_news
      → Each (NoteCause s.cluster tape s.me) (decision_note d)
      → StepKnows s tape (taken s node m (told_notes s node.met m.from m.body) (map (hears_message s (clock_of node.met) m) node.open_operations) d (reply_to s.cluster s.me node.met m) told_news)
  taken_knows m d told_news took rising plain cause = record {
    k = all.k;
    opens = parts.0;
    own = parts.1;
    causes = step_causes s.cluster tape s.me told (decision_note d) applies now (told_plain s node.met m.from m.body) cause (apply_plain s node.met node.stored now.met now.stored)
        (all_act_it Noted noted_lasts s ts (at_first base (stored_after s base node.stored d)) (record { valid = tt; answers = tt }));
  }
    where
      ts : List Heard
      ts = map (hears_message s (clock_of node.met) m) node.open_operations

      told : List Met
      told = told_notes s node.met m.from m.body

      base : List Met
      base = onto (decision_note d) (onto told (Takes m ∷ node.met))

      now : Now
      now = all_act s (at_first base (stored_after s base node.stored d)) ts

      applies : List Met
      applies = apply_notes s node.met node.stored now.met now.stored

      all : AllActed s tape now
      all = all_heard_acted s tape (clock_of node.met) m took node.open_operations 0 (at_first base (stored_after s base node.stored d)) rising opens (record { kept = tt; own = tt })

      parts : Each (OpenBelow s.cluster tape ((reply_to s.cluster s.me node.met m ++ told_news) ++ now.sends) s.me all.k) now.kept × Each (Own s.cluster tape s.me all.k) ((reply_to s.cluster s.me node.met m ++ told_news) ++ now.sends)
      parts = no_more s tape all.k now (reply_to s.cluster s.me node.met m ++ told_news) all.acted
          (each_both (Plain s.cluster s.me) (reply_to s.cluster s.me node.met m) told_news (reply_plain s.cluster s.me node.met m) plain)

  pub take_knows : (m : Message) → Took tape (message m.from s.me m.body) → IsRising 0 node.open_operations → StepKnows s tape (take_step s node m)
  take_knows m took rising = by (told_decision m.body) refl
    where
      ts : List Heard
      ts = map (hears_message s (clock_of node.met) m) node.open_operations

      by : (told : Option Decision) → told_decision m.body ≡ told → StepKnows s tape (take_by s node m ts told)
      by (Some d) is = taken_knows m (if_new node.met (Some d)) [] took rising tt
          (new_cause s.cluster tape s.me node.met (Some d) (λ x same. told_cause s.cluster tape s.me m.from m.body took x (is ∙ same)))
      by None is = taken_knows m (if_new node.met (first_settled ts)) (news s (if_new node.met (first_settled ts))) took rising (news_plain s (if_new node.met (first_settled ts)))
          (new_cause s.cluster tape s.me node.met (first_settled ts) (first_settles s tape cells_of (clock_of node.met) m took node.open_operations opens))

  pub tick_knows : (clock : ℕ) → IsRising 0 node.open_operations → StepKnows s tape (tick_step s node clock)
  tick_knows clock rising = record {
    k = all.k;
    opens = parts.0;
    own = parts.1;
    causes = step_causes s.cluster tape s.me (lease_notes s node.met clock) (lapse_notes s node.met clock) (apply_notes s node.met node.stored now.met now.stored) now
        (lease_plain s node.met clock) (plain_causes s.cluster tape s.me (lapse_notes s node.met clock) (lapses_plain s node.met clock)) (apply_plain s node.met node.stored now.met now.stored)
        (ticked_it Noted noted_lasts s clock node.open_operations (at_first base (portion_of s node.met node.stored)) (record { valid = tt; answers = tt }));
  }
    where
      base : List Met
      base = onto (lapse_notes s node.met clock) (onto (lease_notes s node.met clock) (Ticks clock ∷ node.met))

      now : Now
      now = fold (ticked s clock) (at_first base (portion_of s node.met node.stored)) node.open_operations

      all : AllActed s tape now
      all = all_ticked_acted s tape clock node.open_operations 0 (at_first base (portion_of s node.met node.stored)) rising opens (record { kept = tt; own = tt })

      parts : Each (OpenBelow s.cluster tape ((acquires_at s.cluster s.me node.met clock ++ now.sends) ++ background s node.met clock) s.me all.k) now.kept
          × Each (Own s.cluster tape s.me all.k) ((acquires_at s.cluster s.me node.met clock ++ now.sends) ++ background s node.met clock)
      parts = with_sends s tape all.k now (acquires_at s.cluster s.me node.met clock) (background s node.met clock) all.acted (acquires_at_plain s.cluster s.me node.met clock) (background_plain s node.met clock)

  -- the operations that are open already are below a number
  kept_open : (k : ℕ) → Each (λ (o : Operation). (o.id).number < k) node.open_operations → Each (OpenBelow s.cluster tape [] s.me k) node.open_operations
  kept_open k below = by node.open_operations opens below
    where
      by : (os : List Operation) → Each (Opens s tape) os → Each (λ (o : Operation). (o.id).number < k) os → Each (OpenBelow s.cluster tape [] s.me k) os
      by [] h b = tt
      by (o ∷ os) h b = (record { node = (h.0).node; below = b.0; begun = (h.0).begun; knowing = (h.0).knowing }, by os h.1 b.1)

  pub begin_knows : (request : Request) (text : List ℕ) (k : ℕ) → has_begun tape (op_of s node.met) ≡ true
      → Each (λ (o : Operation). (o.id).number < k) node.open_operations → (refusal s node request ≡ None → k ≤ (op_of s node.met).number)
      → (refusal s node request ≡ None → (about : ℕ) → has_asked_about tape (op_of s node.met) about ≡ false)
      → StepKnows s tape (begin_step s node request text)
  begin_knows request text k begun below above quiet = record {
    k = all.k;
    opens = (all.acted).kept;
    own = (all.acted).own;
    causes = step_causes s.cluster tape s.me [] [] (apply_notes s node.met node.stored now.met now.stored) now tt tt (apply_plain s node.met node.stored now.met now.stored)
        (begun_noted Noted noted_lasts s begin (new_operation (op_of s node.met) request (clock_of node.met)) (refusal s node request) (record { valid = tt; answers = tt }));
  }
    where
      begin : Now
      begin = at_open (at_first (Begins (op_of s node.met) text ∷ node.met) node.stored) node.open_operations

      now : Now
      now = unless_refused s begin (new_operation (op_of s node.met) request (clock_of node.met)) (refusal s node request)

      raised : (l : ℕ) → k ≤ l → Each (OpenBelow s.cluster tape [] s.me l) node.open_operations
      raised l le = kept_open l (each_on (λ (o : Operation). (o.id).number < k) (λ (o : Operation). (o.id).number < l) (λ o less. omega (arith, less, le)) node.open_operations below)

      all : AllActed s tape now
      all = begins_acted s tape begin (op_of s node.met) request (clock_of node.met) (refusal s node request) refl begun refl (λ none. raised (op_of s node.met).number (above none)) quiet
          (λ answer. record { k = k; acted = record { kept = kept_open k below; own = tt } })
