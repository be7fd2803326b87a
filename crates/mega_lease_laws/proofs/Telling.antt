-- A step that tells that a group is invalid notes it.
use Rattle.std.proofs.Common.{◌≡◌, inl, ℕ, ◌==◌, ◌&&◌, Bool, true, false, cond, List, [], ◌∷◌, ◌++◌, map, fold, Option, Some, None, refl, sym, ap, subst}
use Rattle.std.specs.List.{All}
use Rattle.std.proofs.lemmas.List.Elements.{All-append, All-cons, All-nil, All-weaker}
use Rattle.mega_base.specs.declared.names.Epoch.{Epoch}
use Rattle.mega_base.specs.declared.names.GroupId.{GroupId}
use Rattle.mega_base.specs.declared.names.NodeId.{NodeId}
use Rattle.mega_base.specs.declared.names.OpId.{OpId}
use Rattle.mega_base.specs.declared.names.Position.{Position}
use Rattle.mega_ballot.specs.declared.ballot.Ballot.{Ballot}
use Rattle.mega_entry.specs.declared.content.Content.{Content}
use Rattle.mega_locks.specs.declared.asked.Asked.{Asked}
use Rattle.mega_locks.specs.declared.asked.Asked.TheVariants.{Granted as Grant, Renewed, GreaterHeld, Over}
use Rattle.mega_outcome.specs.declared.request.Request.{Request}
use Rattle.mega_wal.specs.declared.answers.Promised.TheVariants as promise
use Rattle.mega_wal.specs.declared.answers.Voted.TheVariants as vote
use Rattle.mega_wal.specs.declared.answers.Promised.{Promised as PromiseAnswer}
use Rattle.mega_wal.specs.declared.answers.Voted.{Voted as AcceptAnswer}
use Rattle.mega_wal.specs.Acceptor.{accept_answer, promise_answer}
use Rattle.mega_wire.specs.declared.message.Message.{Message}
use Rattle.mega_wire.specs.declared.message.Body.{Body}
use Rattle.mega_wire.specs.declared.message.Body.TheVariants.{Where, Top, Accept, Prepare, Invalidate, Invalidated, Dead, Fetch, Acquire}
use Rattle.mega_run_laws.specs.of_tape_laws.of_promises.of_rules.Met.{Met, Begins, Invalidates, Takes, Ticks}
use Rattle.mega_run_laws.specs.of_tape_laws.of_promises.of_rules.Clock.{clock_of}
use Rattle.mega_run_laws.specs.of_tape_laws.of_promises.of_rules.Coordinators.{acquires_at}
use Rattle.mega_run_laws.specs.of_tape_laws.of_promises.of_rules.Locks.{asked_for, held_answer, held_at, lock_answer}
use Rattle.mega_run_laws.specs.of_tape_laws.of_promises.of_rules.Logs.{decided, top_of}
use Rattle.mega_run_laws.specs.of_tape_laws.of_promises.of_rules.Members.{is_cell, is_full, is_voter}
use Rattle.mega_run_laws.specs.of_tape_laws.of_promises.of_rules.Operations.{Node, Now, Setting}
use Rattle.mega_run_laws.specs.of_tape_laws.of_promises.of_rules.Replies.{answer_to, fetched, reply_message, reply_to, where_served}
use Rattle.mega_run_laws.specs.of_tape_laws.of_promises.of_rules.Steps.{Begin, Decision, Event, Heard, Take, Tick, all_act, apply_notes, at_first, at_open, background, begin_step, decision_note, first_settled, hears_message, if_new, lapse_notes, lease_notes, new_operation, news, onto, op_of, portion_of, refusal, step, stored_after, take_step, taken, tick_step, ticked, told_decision, told_notes}
use Rattle.mega_run_laws.specs.of_tape_laws.of_promises.of_rules.Voting.{acts, prepared, promise_body, vote_body, voted}
use Rattle.mega_node_laws.proofs.Acting.{background_hold, news_hold}
use Rattle.mega_node_laws.proofs.Ending.{taken_by}
use Rattle.mega_node_laws.proofs.Walk.{AllSent, IsHeard, all_act_it, all_heard_hold, all_ticked_it, begun_it, sent_lasts}
use Rattle.mega_run_laws.specs.of_tape_laws.Places.{In}
use Rattle.mega_run_laws.proofs.Whole.{in_left}
use Rattle.mega_lease_laws.specs.Questions.{Asks, is_question}
use Rattle.mega_lease_laws.proofs.Acting.{Acquires, acquires_are, asks_act, asks_cover}

-- ---- what is told of a group

-- a message that tells that a group is invalid is of this node, which notes it
abbrev pub TellsOf : ℕ → List Met → ℕ → Body → Type 0
TellsOf me notes from (Invalidated op group n) = (from ≡ me) × In (Invalidates group n.0) notes
TellsOf me notes from _ = Unit {0}

abbrev pub Tells : ℕ → List Met → Message → Type 0
Tells me notes m = TellsOf me notes m.from m.body

question_tells : (me : ℕ) (notes : List Met) (from : ℕ) (body : Body) → is_question body ≡ true → TellsOf me notes from body
question_tells me notes from (Invalidated op group n) is = cc
question_tells me notes from _ is = tt

questions_tell : (me : ℕ) (notes : List Met) (sends : List Message) → All Asks sends → All (Tells me notes) sends
questions_tell me notes sends ask = All-weaker Asks (Tells me notes) (λ m is. question_tells me notes m.from m.body is) sends ask

abbrev Answers : ℕ → List Met → Option Body → Type 0
Answers me notes None = Unit {0}
Answers me notes (Some body) = TellsOf me notes me body

served : (me : ℕ) (notes : List Met) (t : Bool) (body : Body) → TellsOf me notes me body → Answers me notes (where_served t body)
served me notes true body is = is
served me notes false body is = tt

prepared_tells : (me : ℕ) (notes : List Met) (op : OpId) (group : GroupId) (n : Position) (b : Ballot) (a : PromiseAnswer) → TellsOf me notes me (promise_body op group n b a)
prepared_tells me notes op group n b (promise.Yes report) = tt
prepared_tells me notes op group n b (promise.Shown greater) = tt

voted_tells : (me : ℕ) (notes : List Met) (op : OpId) (group : GroupId) (n : Position) (b : Ballot) (e : Content) (a : AcceptAnswer) → TellsOf me notes me (vote_body op group n b e a)
voted_tells me notes op group n b e vote.Yes = tt
voted_tells me notes op group n b e (vote.Shown greater) = tt
voted_tells me notes op group n b e (vote.Other other) = tt

fetched_tells : (me : ℕ) (notes : List Met) (op : OpId) (group : GroupId) (n : Position) (found : Option Content) → TellsOf me notes me (fetched op group n found)
fetched_tells me notes op group n None = tt
fetched_tells me notes op group n (Some entry) = tt

held_tells : (me : ℕ) (notes : List Met) (op : OpId) (cell : ℕ) (node : NodeId) (held : Option Epoch) → TellsOf me notes me (held_answer op cell node held)
held_tells me notes op cell node None = tt
held_tells me notes op cell node (Some epoch) = tt

lock_tells : (me : ℕ) (notes : List Met) (cell : ℕ) (epoch : Epoch) (clock : ℕ) (asked : Asked) → TellsOf me notes me (lock_answer cell epoch clock asked)
lock_tells me notes cell epoch clock Grant = tt
lock_tells me notes cell epoch clock Renewed = tt
lock_tells me notes cell epoch clock (GreaterHeld greatest) = tt
lock_tells me notes cell epoch clock (Over greatest) = tt

answer_tells : (s : Setting) (met : List Met) (from : ℕ) (body : Body) → Answers s.me (told_notes s met from body) (answer_to s.cluster s.me met from body)
answer_tells s met from (Where op group) = served s.me (told_notes s met from (Where op group)) (is_voter s.cluster s.me) (Top op group (record { 0 = top_of met group })) tt
answer_tells s met from (Accept op group n b e) = served s.me (told_notes s met from (Accept op group n b e)) (is_voter s.cluster s.me) (voted (acts met group n.0) op group n b e) (voted_tells s.me (told_notes s met from (Accept op group n b e)) op group n b e (accept_answer (acts met group n.0) b e))
answer_tells s met from (Prepare op group n b) = served s.me (told_notes s met from (Prepare op group n b)) (is_voter s.cluster s.me) (prepared (acts met group n.0) op group n b) (prepared_tells s.me (told_notes s met from (Prepare op group n b)) op group n b (promise_answer (acts met group n.0) b))
answer_tells s met from (Fetch op group n) = served s.me (told_notes s met from (Fetch op group n)) (is_voter s.cluster s.me) (fetched op group n (decided met group n.0)) (fetched_tells s.me (told_notes s met from (Fetch op group n)) op group n (decided met group n.0))
answer_tells s met from (Invalidate op group n) = by (is_full s.cluster s.me)
  where
    by : (t : Bool) → Answers s.me (cond t (Invalidates group n.0 ∷ []) []) (where_served t (Invalidated op group n))
    by true = (refl, inl refl)
    by false = tt
answer_tells s met from (Dead op cell node) = served s.me (told_notes s met from (Dead op cell node)) (cell == s.me && is_cell s.cluster s.me) (held_answer op cell node (held_at s.cluster s.me met node.0)) (held_tells s.me (told_notes s met from (Dead op cell node)) op cell node (held_at s.cluster s.me met node.0))
answer_tells s met from (Acquire cell epoch clock) = served s.me (told_notes s met from (Acquire cell epoch clock)) (cell == s.me && is_cell s.cluster s.me) (lock_answer cell epoch clock (asked_for s.cluster s.me met from epoch)) (lock_tells s.me (told_notes s met from (Acquire cell epoch clock)) cell epoch clock (asked_for s.cluster s.me met from epoch))
answer_tells s met from _ = tt

-- more notes behind
more_noted : (me : ℕ) (notes more : List Met) (from : ℕ) (body : Body) → TellsOf me notes from body → TellsOf me (notes ++ more) from body
more_noted me notes more from (Invalidated op group n) h = (h.0, in_left (Invalidates group n.0) notes more h.1)
more_noted me notes more from _ h = tt

reply_tells : (me : ℕ) (notes more : List Met) (to : ℕ) (reply : Option Body) → Answers me notes reply → All (Tells me (notes ++ more)) (reply_message me to reply)
reply_tells me notes more to None h = All-nil (Tells me (notes ++ more))
reply_tells me notes more to (Some body) h = All-cons (Tells me (notes ++ more)) (record { from = me; to = to; body = body }) [] (more_noted me notes more me body h) (All-nil (Tells me (notes ++ more)))

-- ---- a whole step

-- the notes behind what a message tells cell and coordinator
pub rejoined : {X : Type 0} (a b c d e : List X) → (((a ++ b) ++ c) ++ d) ++ e ≡ a ++ (((b ++ c) ++ d) ++ e)
rejoined [] b c d e = refl
rejoined (x ∷ a) b c d e = ap (λ xs. x ∷ xs) (rejoined a b c d e)

taken_tells : (s : Setting) (node : Node) (m : Message) (ts : List Heard) (d : Option Decision) (told_news : List Message) → All (IsHeard Asks ⊥) ts → All Asks told_news
    → All (Tells s.me (taken s node m (told_notes s node.met m.from m.body) ts d (reply_to s.cluster s.me node.met m) told_news).notes) (taken s node m (told_notes s node.met m.from m.body) ts d (reply_to s.cluster s.me node.met m) told_news).sends
taken_tells s node m ts d told_news heard asks =
    All-append (Tells s.me notes) (reply_to s.cluster s.me node.met m ++ told_news) now.sends
    (All-append (Tells s.me notes) (reply_to s.cluster s.me node.met m) told_news
    (subst (λ those. All (Tells s.me those) (reply_to s.cluster s.me node.met m)) (sym (rejoined told (decision_note d) applies now.valid now.answers))
    (reply_tells s.me told (((decision_note d ++ applies) ++ now.valid) ++ now.answers) m.from (answer_to s.cluster s.me node.met m.from m.body) (answer_tells s node.met m.from m.body)))
    (questions_tell s.me notes told_news asks))
    (questions_tell s.me notes now.sends (all_act_it Asks (AllSent Asks) ⊥ (sent_lasts Asks) s (asks_act s) ts (at_first base (stored_after s base node.stored d)) heard (All-nil Asks)))
  where
    told : List Met
    told = told_notes s node.met m.from m.body

    base : List Met
    base = onto (decision_note d) (onto told (Takes m ∷ node.met))

    now : Now
    now = all_act s (at_first base (stored_after s base node.stored d)) ts

    applies : List Met
    applies = apply_notes s node.met node.stored now.met now.stored

    notes : List Met
    notes = (((told ++ decision_note d) ++ applies) ++ now.valid) ++ now.answers

taken_by_tells : (s : Setting) (node : Node) (m : Message) (ts : List Heard) (told : Option Decision) → All (IsHeard Asks ⊥) ts → All (Tells s.me (taken_by s node m ts told).notes) (taken_by s node m ts told).sends
taken_by_tells s node m ts (Some d) heard = taken_tells s node m ts (if_new node.met (Some d)) [] heard (All-nil Asks)
taken_by_tells s node m ts None heard = taken_tells s node m ts (if_new node.met (first_settled ts)) (news s (if_new node.met (first_settled ts))) heard (news_hold Asks s (asks_act s) (if_new node.met (first_settled ts)))

take_tells : (s : Setting) (node : Node) (m : Message) → All (Tells s.me (take_step s node m).notes) (take_step s node m).sends
take_tells s node m = taken_by_tells s node m (map (hears_message s (clock_of node.met) m) node.open_operations) (told_decision m.body) (all_heard_hold Asks s (asks_act s) (clock_of node.met) m node.open_operations)

tick_tells : (s : Setting) (node : Node) (now : ℕ) → All (Tells s.me (tick_step s node now).notes) (tick_step s node now).sends
tick_tells s node now =
    All-append (Tells s.me notes) (acquires_at s.cluster s.me node.met now ++ acc.sends) (background s node.met now)
    (All-append (Tells s.me notes) (acquires_at s.cluster s.me node.met now) acc.sends
    (All-weaker (Acquires s.cluster s.me node.met now) (Tells s.me notes) (λ m a. subst (Tells s.me notes) (sym a.is) tt) (acquires_at s.cluster s.me node.met now) (acquires_are s.cluster s.me node.met now))
    (questions_tell s.me notes acc.sends (all_ticked_it Asks (AllSent Asks) ⊥ (sent_lasts Asks) s (asks_act s) (asks_cover s) now node.open_operations (at_first base (portion_of s node.met node.stored)) (λ impossible. absurd impossible) (All-nil Asks))))
    (questions_tell s.me notes (background s node.met now) (background_hold Asks s (asks_act s) node.met now))
  where
    base : List Met
    base = onto (lapse_notes s node.met now) (onto (lease_notes s node.met now) (Ticks now ∷ node.met))

    acc : Now
    acc = fold (ticked s now) (at_first base (portion_of s node.met node.stored)) node.open_operations

    notes : List Met
    notes = (tick_step s node now).notes

begin_tells : (s : Setting) (node : Node) (request : Request) (text : List ℕ) → All (Tells s.me (begin_step s node request text).notes) (begin_step s node request text).sends
begin_tells s node request text =
    questions_tell s.me (begin_step s node request text).notes (begin_step s node request text).sends
    (begun_it Asks (AllSent Asks) ⊥ (sent_lasts Asks) s (asks_act s) (at_open (at_first (Begins (op_of s node.met) text ∷ node.met) node.stored) node.open_operations) (new_operation (op_of s node.met) request (clock_of node.met)) (refusal s node request) (All-nil Asks))

pub step_tells : (s : Setting) (node : Node) (event : Event) → All (Tells s.me (step s node event).notes) (step s node event).sends
step_tells s node (Tick now) = tick_tells s node now
step_tells s node (Take m) = take_tells s node m
step_tells s node (Begin request text) = begin_tells s node request text
