-- In every run a group is valid by a poll that began while the present epoch served, through a decided position, above each that was invalidated since.
use Rattle.std.proofs.Common.{◌≡◌, ◌⊎◌, inl, inr, ℕ, ◌+◌, ◌-◌, ◌==◌, ◌&&◌, ◌≤◌, ◌<◌, min, nat_le, nat_lt, not, Bool, true, false, cond, List, [], ◌∷◌, ◌++◌, flat_map, fold, length, map, Option, Some, None, refl, sym, ap, ◌∙◌, subst, arith, append-nil}
use Rattle.std.proofs.lemmas.Bool.Decides.{nat_tests}
use Rattle.std.specs.List.{All}
use Rattle.std.proofs.lemmas.List.Elements.{All-head, All-tail}
use Rattle.std.proofs.lemmas.Bool.{or_from, or_parts, and_parts}
use Rattle.std.proofs.lemmas.List.Concat.{flat_map-append}
use Rattle.mega_base.specs.declared.names.Epoch.{Epoch}
use Rattle.mega_base.specs.declared.names.GroupId.{GroupId}
use Rattle.mega_base.specs.declared.names.NodeId.{NodeId}
use Rattle.mega_base.specs.declared.names.OpId.{OpId}
use Rattle.mega_base.specs.declared.names.Position.{Position}
use Rattle.mega_ballot.specs.declared.ballot.Ballot.{Ballot}
use Rattle.mega_cluster.specs.declared.cluster.Cluster.{Cluster}
use Rattle.mega_entry.specs.declared.content.Content.{Content}
use Rattle.mega_handler.specs.Named.{Meanings}
use Rattle.mega_coordinator.specs.declared.answers.NotValid.{NotValid}
use Rattle.mega_locks.specs.declared.asked.Asked.{Asked}
use Rattle.mega_locks.specs.declared.asked.Asked.TheVariants.{Granted, Renewed, GreaterHeld, Over}
use Rattle.mega_outcome.specs.declared.request.Request.{Request}
use Rattle.mega_lease_laws.specs.of_run_laws.of_tape_laws.of_promises.of_rules.of_read.of_propose.Members.{others}
use Rattle.mega_wal.specs.Acceptor.{accept_answer, promise_answer}
use Rattle.mega_wal.specs.Same.{same_group, same_op}
use Rattle.mega_wal.proofs.Sames.{same_group_equal, same_op_equal}
use Rattle.mega_wal.specs.declared.answers.Promised.{Promised as PromiseAnswer}
use Rattle.mega_wal.specs.declared.answers.Promised.TheVariants as promise
use Rattle.mega_wal.specs.declared.answers.Voted.{Voted as AcceptAnswer}
use Rattle.mega_wal.specs.declared.answers.Voted.TheVariants as vote
use Rattle.mega_wire.specs.declared.message.Message.{Message}
use Rattle.mega_wire.specs.declared.message.Body.{Body}
use Rattle.mega_wire.specs.declared.message.Body.TheVariants.{Accept, Acquire, Dead, Fetch, Granted as GrantedBody, Invalidate, Invalidated, Prepare, Top, Where}
use Rattle.mega_lease_laws.specs.of_run_laws.of_tape_laws.of_promises.of_transcript.declared.item.Item.{Item}
use Rattle.mega_lease_laws.specs.of_run_laws.of_tape_laws.of_promises.of_transcript.declared.item.Item.TheVariants.{Answer as AnswerItem, Apply, Crash, Decide, Sent, Unsafe, Valid}
use Rattle.mega_lease_laws.specs.of_run_laws.of_tape_laws.of_promises.of_transcript.Tape.{sent_count}
use Rattle.mega_lease_laws.specs.of_run_laws.of_tape_laws.of_promises.Items.{number, shown}
use Rattle.mega_lease_laws.specs.of_run_laws.of_tape_laws.of_promises.Messages.{is_unsafe}
use Rattle.mega_lease_laws.specs.of_run_laws.of_tape_laws.of_promises.Promises.{Stands}
use Rattle.mega_lease_laws.specs.of_run_laws.of_tape_laws.of_promises.Runs.{Happening, IsRun, Standing, breaks, met_in, nothing_yet, set_at, setting, with_item, with_items}
use Rattle.mega_lease_laws.specs.of_run_laws.of_tape_laws.of_promises.of_rules.Met.{Met, Starts, Crashes, Ticks, Begins, Takes, Sends, Unsends, Grants, Lapses, Counts, Forgets, Serves, Loses, Validates, Invalidates, Decides, Applies, Answers}
use Rattle.mega_lease_laws.specs.of_run_laws.of_tape_laws.of_promises.of_rules.Clock.{begun_of, clock_of, does_again, is_up, last_number, start_of, ticks_of}
use Rattle.mega_lease_laws.specs.of_run_laws.of_tape_laws.of_promises.of_rules.Coordinators.{acquires_at, serves_at}
use Rattle.mega_lease_laws.specs.of_run_laws.of_tape_laws.of_promises.of_rules.Locks.{asked_for, held_answer, held_at, lock_answer}
use Rattle.mega_lease_laws.specs.of_run_laws.of_tape_laws.of_promises.of_rules.Logs.{decided, first_of, groups_of, newest_of, prefix_of, top_of}
use Rattle.mega_lease_laws.specs.of_run_laws.of_tape_laws.of_promises.of_rules.Members.{has_rows, is_cell, is_full, is_voter, kind_of, nodes, voters}
use Rattle.mega_lease_laws.specs.of_run_laws.of_tape_laws.of_promises.of_rules.Operations.{Node, Now, Operation, Setting}
use Rattle.mega_lease_laws.specs.of_run_laws.of_tape_laws.of_promises.of_rules.Acting.{validated_by}
use Rattle.mega_lease_laws.specs.of_run_laws.of_tape_laws.of_promises.of_rules.Replies.{answer_to, fetched, reply_message, reply_to, where_served}
use Rattle.mega_lease_laws.specs.of_run_laws.of_tape_laws.of_promises.of_rules.Steps.{Begin, Decision, Event, Heard as HeardBy, Step, Take, Tick, all_act, applied_at, apply_note, apply_notes, at_first, at_open, background, begin_step, crashed, decide_to, decision_note, fetch_to, fetches_for, first_settled, hears_message, if_new, is_worn, lapse_notes, lease_notes, missing_kind, new_operation, news, onto, op_of, portion_of, refusal, start, start_items, start_notes, step, stored_after, take_step, taken, tick_step, ticked, told_decision, told_notes, unless_missing, unless_refused}
use Rattle.mega_lease_laws.specs.of_run_laws.of_tape_laws.of_promises.of_rules.Voting.{acts, prepared, promise_body, vote_body, voted}
use Rattle.mega_lease_laws.specs.of_run_laws.of_tape_laws.Lawful.{message}
use Rattle.mega_lease_laws.specs.of_run_laws.of_tape_laws.Places.{Took}
use Rattle.mega_lease_laws.specs.of_run_laws.of_tape_laws.Polls.{IsPolled, has_asked, is_asking}
use Rattle.mega_lease_laws.proofs.of_run_laws.of_tape_laws.Ballots.{clash, number_is, number_self}
use Rattle.mega_lease_laws.proofs.of_run_laws.of_tape_laws.Lists.{some_is}
use Rattle.mega_lease_laws.specs.of_run_laws.Justified.{Each, sent}
use Rattle.mega_lease_laws.proofs.of_run_laws.Events.{IsAnswer, IsPlain, each_append as each_both, lapses_plain, lease_plain, onto_append, told_plain}
use Rattle.mega_lease_laws.proofs.of_run_laws.Noting.{Lasts, all_act_it, begun_it, ticked_it}
use Rattle.mega_lease_laws.proofs.of_run_laws.Runs.{IsMark, Keeps, nobody}
use Rattle.mega_lease_laws.proofs.of_run_laws.Sending.{took_on}
use Rattle.mega_lease_laws.proofs.of_run_laws.Standing.{Good}
use Rattle.mega_lease_laws.proofs.of_run_laws.Steps.{never_asked, not_worn}
use Rattle.mega_lease_laws.proofs.of_run_laws.Turns.{Held, IsRising, Known, each_on}
use Rattle.mega_valid_laws.specs.of_settled_laws.Covering.{Earlier}
use Rattle.mega_lease_laws.proofs.of_run_laws.Shown.{IsSilent, notes_silent}
use Rattle.mega_valid_laws.proofs.of_settled_laws.Tapes.{earlier_stood, items_later, now_is, one_later, sent_later, then_later}
use Rattle.mega_lease_laws.proofs.Acting.{Acquires, acquires_are}
use Rattle.mega_lease_laws.proofs.of_run_laws.Whole.{take_by}
use Rattle.mega_lease_laws.proofs.of_run_laws.Noted.{with_append}
use Rattle.mega_valid_laws.specs.Leases.{asks_end, has_polled, serving_on}
use Rattle.mega_valid_laws.specs.Showing.{next_serving, serving_met}
use Rattle.mega_valid_laws.proofs.Folds.{IsOwn, tells_serving}
use Rattle.mega_valid_laws.proofs.Shows.{ShownAt, nothing_shown, shown_keeps}
use Rattle.mega_valid_laws.proofs.Walked.{step_agrees}
use Rattle.mega_leased_laws.specs.Items.{Are}
use Rattle.mega_leased_laws.specs.Serving.{IsServing}
use Rattle.mega_leased_laws.specs.Validation.{IsValidated}
use Rattle.mega_leased_laws.proofs.Forms.{Holds, Occurs, both_keep, down, run_holds, stepped}
use Rattle.mega_leased_laws.proofs.Tails.{front_apart, fronts}
use Rattle.mega_leased_laws.proofs.Notes.{step_parts}
use Rattle.mega_leased_laws.proofs.Tapes.{Follows, IsFree, are_items, both_follow, free_follows, free_notes}
use Rattle.mega_leased_laws.proofs.TapeIsMet.{cuts_told, falls_told, marks_told, starts_told, step_met, steps_told, told_notes_of}
use Rattle.mega_leased_laws.proofs.Locks.{IsOwed}
use Rattle.mega_leased_laws.proofs.Cells.{Celling, IsGiven, at_me, by_node, celling_holds, nothing_celling, occurs_own, of_given, own_noted, start_owed}
use Rattle.mega_leased_laws.proofs.Epochs.{Before, Epoching, IsTold, Tells, epoching_holds, nothing_epoching, rest_serves, sends_serve}
use Rattle.mega_leased_laws.proofs.Asking.{AllActed, OpenBelow, MayNote, OpenAt, Own, OwnBody, ValidNote, all_heard_acted, all_ticked_acted, begins_acted, phase_on, polls_both, polls_in}
use Rattle.mega_valid_laws.proofs.NoCalls.{IsNoCall, Uncalled, uncalled_all}
use Rattle.mega_leased_laws.proofs.Beating.{Beats, IsIdle, NoGrant, NoGrantBody, beaten_at, beaten_met, beaten_on, fronts_beat, fronts_no_call, idle_none, invalid_most, next_beaten, step_beats, step_idle, step_unchanged, tells_beaten, uncalled_idle, uncalled_serves, own_idle}
use Rattle.mega_leased_laws.proofs.Obeying.{mark_silent}

-- ---- what a node sends by itself, and its reply, asks no end of a log and proposes nothing

abbrev pub NoRequest : Body → Type 0
NoRequest (Where op group) = ⊥
NoRequest (Accept op group n b e) = ⊥
NoRequest _ = Unit {0}

abbrev pub Plain : Message → Type 0
Plain m = NoRequest m.body

plain_own : (me k : ℕ) (m : Message) → Plain m → Own me k m
plain_own me k m h = by m.body h
  where
    by : (body : Body) → NoRequest body → OwnBody me k body
    by (Where op group) none = absurd none
    by _ none = tt

plain_silent : (ms : List Message) (op : OpId) (group : GroupId) → Each Plain ms → polls_in ms op group ≡ false
plain_silent [] op group h = refl
plain_silent (m ∷ ms) op group h = or_from (asks_end op group m.body) (polls_in ms op group) (by m.body h.0) (plain_silent ms op group h.1)
  where
    by : (body : Body) → NoRequest body → asks_end op group body ≡ false
    by (Where asking g) none = absurd none
    by _ none = refl

plain_map : {X : Type 0} (f : X → Message) → ((x : X) → Plain (f x)) → (xs : List X) → Each Plain (map f xs)
plain_map f h [] = tt
plain_map f h (x ∷ xs) = (h x, plain_map f h xs)

plain_flat : {X : Type 0} (f : X → List Message) → ((x : X) → Each Plain (f x)) → (xs : List X) → Each Plain (flat_map f xs)
plain_flat f h [] = tt
plain_flat f h (x ∷ xs) = each_both Plain (f x) (flat_map f xs) (h x) (plain_flat f h xs)

plain_if : (t : Bool) (ms : List Message) → Each Plain ms → Each Plain (cond t ms [])
plain_if true ms h = h
plain_if false ms h = tt

abbrev PlainAnswer : Option Body → Type 0
PlainAnswer None = Unit {0}
PlainAnswer (Some body) = NoRequest body

served : (t : Bool) (body : Body) → NoRequest body → PlainAnswer (where_served t body)
served true body is = is
served false body is = tt

prepared_plain : (op : OpId) (group : GroupId) (n : Position) (b : Ballot) (a : PromiseAnswer) → NoRequest (promise_body op group n b a)
prepared_plain op group n b (promise.Yes report) = tt
prepared_plain op group n b (promise.Shown greater) = tt

voted_plain : (op : OpId) (group : GroupId) (n : Position) (b : Ballot) (e : Content) (a : AcceptAnswer) → NoRequest (vote_body op group n b e a)
voted_plain op group n b e vote.Yes = tt
voted_plain op group n b e (vote.Shown greater) = tt
voted_plain op group n b e (vote.Other other) = tt

fetched_plain : (op : OpId) (group : GroupId) (n : Position) (found : Option Content) → NoRequest (fetched op group n found)
fetched_plain op group n None = tt
fetched_plain op group n (Some entry) = tt

lock_plain : (cell : ℕ) (epoch : Epoch) (clock : ℕ) (asked : Asked) → NoRequest (lock_answer cell epoch clock asked)
lock_plain cell epoch clock Granted = tt
lock_plain cell epoch clock Renewed = tt
lock_plain cell epoch clock (GreaterHeld greatest) = tt
lock_plain cell epoch clock (Over greatest) = tt

held_plain : (op : OpId) (cell : ℕ) (node : NodeId) (held : Option Epoch) → NoRequest (held_answer op cell node held)
held_plain op cell node None = tt
held_plain op cell node (Some epoch) = tt

answer_plain : (c : Cluster) (me : ℕ) (met : List Met) (from : ℕ) (body : Body) → PlainAnswer (answer_to c me met from body)
answer_plain c me met from (Where op group) = served (is_voter c me) (Top op group (record { 0 = top_of met group })) tt
answer_plain c me met from (Accept op group n b e) = served (is_voter c me) (voted (acts met group n.0) op group n b e) (voted_plain op group n b e (accept_answer (acts met group n.0) b e))
answer_plain c me met from (Prepare op group n b) = served (is_voter c me) (prepared (acts met group n.0) op group n b) (prepared_plain op group n b (promise_answer (acts met group n.0) b))
answer_plain c me met from (Fetch op group n) = served (is_voter c me) (fetched op group n (decided met group n.0)) (fetched_plain op group n (decided met group n.0))
answer_plain c me met from (Invalidate op group n) = served (is_full c me) (Invalidated op group n) tt
answer_plain c me met from (Dead op cell node) = served (cell == me && is_cell c me) (held_answer op cell node (held_at c me met node.0)) (held_plain op cell node (held_at c me met node.0))
answer_plain c me met from (Acquire cell epoch clock) = served (cell == me && is_cell c me) (lock_answer cell epoch clock (asked_for c me met from epoch)) (lock_plain cell epoch clock (asked_for c me met from epoch))
answer_plain c me met from _ = tt

message_plain : (me to : ℕ) (o : Option Body) → PlainAnswer o → Each Plain (reply_message me to o)
message_plain me to None h = tt
message_plain me to (Some body) h = (h, tt)

pub reply_plain : (c : Cluster) (me : ℕ) (met : List Met) (m : Message) → Each Plain (reply_to c me met m)
reply_plain c me met m = message_plain me m.from (answer_to c me met m.from m.body) (answer_plain c me met m.from m.body)

pub news_plain : (s : Setting) (d : Option Decision) → Each Plain (news s d)
news_plain s None = tt
news_plain s (Some d) = plain_map (decide_to s.me d) (λ to. tt) (others s.me (nodes s.cluster))

pub background_plain : (s : Setting) (met : List Met) (now : ℕ) → Each Plain (background s met now)
background_plain s met now =
    plain_if (has_rows s.cluster s.me && does_again (s.cluster).retry (ticks_of met) now) (flat_map (fetches_for s met) (groups_of met))
    (plain_flat (fetches_for s met)
    (λ group. plain_if (nat_lt (prefix_of met group) (newest_of met group)) (map (fetch_to s met group) (others s.me (voters s.cluster))) (plain_map (fetch_to s met group) (λ to. tt) (others s.me (voters s.cluster))))
    (groups_of met))

pub acquires_plain : (s : Setting) (met : List Met) (now : ℕ) → Each Plain (acquires_at s.cluster s.me met now)
acquires_plain s met now = by (acquires_at s.cluster s.me met now) (acquires_are s.cluster s.me met now)
  where
    by : (ms : List Message) → All (Acquires s.cluster s.me met now) ms → Each Plain ms
    by [] h = tt
    by (m ∷ ms) h = (subst Plain (sym (All-head (Acquires s.cluster s.me met now) m ms h).is) tt, by ms (All-tail (Acquires s.cluster s.me met now) m ms h))

-- ---- notes behind the first ones

-- what is applied, validates that were allowed, and answers
abbrev RestNote : Cluster → List Item → ℕ → List Met → Met → Type 0
RestNote c tape me base (Validates group p) = MayNote c tape me base group p
RestNote c tape me base (Applies group p) = Unit {0}
RestNote c tape me base (Answers op answer) = Unit {0}
RestNote c tape me base _ = ⊥

abbrev IsDecision : Met → Type 0
IsDecision (Decides group position entry) = Unit {0}
IsDecision _ = ⊥

valid_rest : (c : Cluster) (tape : List Item) (me : ℕ) (base notes : List Met) → Each (ValidNote c tape me base) notes → Each (RestNote c tape me base) notes
valid_rest c tape me base notes h = each_on (ValidNote c tape me base) (RestNote c tape me base) one notes h
  where
    one : (note : Met) → ValidNote c tape me base note → RestNote c tape me base note
    one (Validates group p) k = k
    one _ k = absurd k

answers_rest : (c : Cluster) (tape : List Item) (me : ℕ) (base notes : List Met) → Each IsAnswer notes → Each (RestNote c tape me base) notes
answers_rest c tape me base notes h = each_on IsAnswer (RestNote c tape me base) one notes h
  where
    one : (note : Met) → IsAnswer note → RestNote c tape me base note
    one (Answers op answer) k = tt
    one _ k = absurd k

applies_rest : (c : Cluster) (tape : List Item) (me : ℕ) (base : List Met) (s : Setting) (was : List Met) (was_stored : GroupId → ℕ) (met : List Met) (stored : GroupId → ℕ) → Each (RestNote c tape me base) (apply_notes s was was_stored met stored)
applies_rest c tape me base s was was_stored met stored = if_so (has_rows s.cluster s.me) _ (each (groups_of met))
  where
    if_so : (t : Bool) (xs : List Met) → Each (RestNote c tape me base) xs → Each (RestNote c tape me base) (cond t xs [])
    if_so true xs h = h
    if_so false xs h = tt

    each : (groups : List GroupId) → Each (RestNote c tape me base) (flat_map (apply_note was was_stored met stored) groups)
    each [] = tt
    each (group ∷ groups) = each_both (RestNote c tape me base) (apply_note was was_stored met stored group) (flat_map (apply_note was was_stored met stored) groups)
        (if_so (nat_lt (applied_at was was_stored group) (applied_at met stored group)) (Applies group (applied_at met stored group) ∷ []) (tt, tt)) (each groups)

decision_only : (d : Option Decision) → Each IsDecision (decision_note d)
decision_only None = tt
decision_only (Some d) = (tt, tt)

decision_no_call : (notes : List Met) → Each IsDecision notes → Each IsNoCall notes
decision_no_call notes h = each_on IsDecision IsNoCall one notes h
  where
    one : (note : Met) → IsDecision note → IsNoCall note
    one (Decides group position entry) k = tt
    one _ k = absurd k

abbrev Answering : Now → Type 0
Answering now = Each IsAnswer now.answers

answering_lasts : Lasts Answering
answering_lasts = record {
  keeps_it = λ now o h. h;
  ends_it = λ now op answer h. each_both IsAnswer now.answers (Answers op answer ∷ []) h (tt, tt);
  sends_it = λ now ms h. h;
  stores_it = λ now stored h. h;
  validates_it = λ now group p refusal h. validated now group p refusal h;
}
  where
    validated : (now : Now) (group : GroupId) (p : ℕ) (refusal : Option NotValid) → Answering now → Answering (validated_by now group p refusal)
    validated now group p (Some why) h = h
    validated now group p None h = h

-- ---- a step

-- what a node met behind its first notes
abbrev behind_fronts : Setting → Node → Event → List Met
behind_fronts s node event = onto (fronts s node event) (met_in s node.met event ∷ node.met)

-- what a step knows, on the tape behind its first notes
record StepKnows (s : Setting) (tape : List Item) (node : Node) (event : Event) (made : Step) : Type 0 where
  durable : List Met
  only : Each IsDecision durable
  more : List Met
  is : made.notes ≡ (fronts s node event ++ durable) ++ more
  each : Each (RestNote s.cluster tape s.me (onto durable (behind_fronts s node event))) more
  k : ℕ
  opens : Each (OpenBelow s.cluster tape made.sends s.me k) (made.node).open_operations
  own : Each (Own s.me k) made.sends

module _ (s : Setting) (tape : List Item) (node : Node) where
  abbrev Shows : List Met → Type 0
  Shows base = (e : Epoch) → serves_at s.cluster base ≡ Some e → serving_on tape s.me ≡ Some e

  durable_shows : (durable base : List Met) → Each IsDecision durable → Shows base → Shows (onto durable base)
  durable_shows durable base only shows e is = shows e (sym (uncalled_serves s.cluster (onto durable base) base (uncalled_all s.cluster durable base (decision_no_call durable only))) ∙ is)

  -- with other messages that ask nothing
  kept_with : (sends before behind : List Message) (k : ℕ) → Each Plain before → Each Plain behind → (os : List Operation) → Each (OpenBelow s.cluster tape sends s.me k) os → Each (OpenBelow s.cluster tape ((before ++ sends) ++ behind) s.me k) os
  kept_with sends before behind k h j os kept = each_on (OpenBelow s.cluster tape sends s.me k) (OpenBelow s.cluster tape ((before ++ sends) ++ behind) s.me k) (λ o one. record {
    node = one.node;
    below = one.below;
    knows = one.knows;
    quiet = λ g unseen. let was = one.quiet g unseen in (was.0, polls_both (before ++ sends) behind o.id g (polls_both before sends o.id g (plain_silent before o.id g h) was.1) (plain_silent behind o.id g j));
  }) os kept

  kept_before : (sends before : List Message) (k : ℕ) → Each Plain before → (os : List Operation) → Each (OpenBelow s.cluster tape sends s.me k) os → Each (OpenBelow s.cluster tape (before ++ sends) s.me k) os
  kept_before sends before k h os kept = each_on (OpenBelow s.cluster tape sends s.me k) (OpenBelow s.cluster tape (before ++ sends) s.me k) (λ o one. record {
    node = one.node;
    below = one.below;
    knows = one.knows;
    quiet = λ g unseen. let was = one.quiet g unseen in (was.0, polls_both before sends o.id g (plain_silent before o.id g h) was.1);
  }) os kept

  plain_owns : (k : ℕ) (ms : List Message) → Each Plain ms → Each (Own s.me k) ms
  plain_owns k ms h = each_on Plain (Own s.me k) (plain_own s.me k) ms h

  taken_knows : (m : Message) (d : Option Decision) (told_news : List Message) → Took tape (message m.from s.me m.body) → IsRising 0 node.open_operations → Each (OpenAt s.cluster tape s.me) node.open_operations → Each Plain told_news
      → Shows (behind_fronts s node (Take m)) → StepKnows s tape node (Take m) (taken s node m (told_notes s node.met m.from m.body) (map (hears_message s (clock_of node.met) m) node.open_operations) d (reply_to s.cluster s.me node.met m) told_news)
  taken_knows m d told_news took rising opens plain shows = record {
    durable = decision_note d;
    only = decision_only d;
    more = (applies ++ now.valid) ++ now.answers;
    is = front_apart (told ++ decision_note d) applies now.valid now.answers;
    each = each_both (RestNote s.cluster tape s.me base) (applies ++ now.valid) now.answers
        (each_both (RestNote s.cluster tape s.me base) applies now.valid (applies_rest s.cluster tape s.me base s node.met node.stored now.met now.stored) (valid_rest s.cluster tape s.me base now.valid (all.acted).valid))
        (answers_rest s.cluster tape s.me base now.answers (all_act_it Answering answering_lasts s ts (at_first base (stored_after s base node.stored d)) tt));
    k = all.k;
    opens = kept_before now.sends (reply_to s.cluster s.me node.met m ++ told_news) all.k besides now.kept (all.acted).kept;
    own = each_both (Own s.me all.k) (reply_to s.cluster s.me node.met m ++ told_news) now.sends (plain_owns all.k (reply_to s.cluster s.me node.met m ++ told_news) besides) (all.acted).own;
  }
    where
      ts : List HeardBy
      ts = map (hears_message s (clock_of node.met) m) node.open_operations

      told : List Met
      told = told_notes s node.met m.from m.body

      base : List Met
      base = onto (decision_note d) (onto told (Takes m ∷ node.met))

      now : Now
      now = all_act s (at_first base (stored_after s base node.stored d)) ts

      applies : List Met
      applies = apply_notes s node.met node.stored now.met now.stored

      shown_base : Shows base
      shown_base = durable_shows (decision_note d) (onto told (Takes m ∷ node.met)) (decision_only d) shows

      all : AllActed s tape base shown_base now
      all = all_heard_acted s tape base shown_base (clock_of node.met) m took node.open_operations 0 (at_first base (stored_after s base node.stored d)) rising opens
          (record { same = record { serves = refl; beaten = λ g. refl; decided = λ g n. refl }; valid = tt; kept = tt; own = tt })

      besides : Each Plain (reply_to s.cluster s.me node.met m ++ told_news)
      besides = each_both Plain (reply_to s.cluster s.me node.met m) told_news (reply_plain s.cluster s.me node.met m) plain

  take_knows : (m : Message) → Took tape (message m.from s.me m.body) → IsRising 0 node.open_operations → Each (OpenAt s.cluster tape s.me) node.open_operations → Shows (behind_fronts s node (Take m)) → StepKnows s tape node (Take m) (take_step s node m)
  take_knows m took rising opens shows = by (told_decision m.body)
    where
      ts : List HeardBy
      ts = map (hears_message s (clock_of node.met) m) node.open_operations

      by : (told : Option Decision) → StepKnows s tape node (Take m) (take_by s node m ts told)
      by (Some d) = taken_knows m (if_new node.met (Some d)) [] took rising opens tt shows
      by None = taken_knows m (if_new node.met (first_settled ts)) (news s (if_new node.met (first_settled ts))) took rising opens (news_plain s (if_new node.met (first_settled ts))) shows

  tick_knows : (clock : ℕ) → IsRising 0 node.open_operations → Each (OpenAt s.cluster tape s.me) node.open_operations → Shows (behind_fronts s node (Tick clock)) → StepKnows s tape node (Tick clock) (tick_step s node clock)
  tick_knows clock rising opens shows = record {
    durable = [];
    only = tt;
    more = (applies ++ now.valid) ++ now.answers;
    is = front_apart (leases ++ lapses) applies now.valid now.answers ∙ ap (λ front. front ++ ((applies ++ now.valid) ++ now.answers)) (sym (append-nil (leases ++ lapses)));
    each = subst (λ met. Each (RestNote s.cluster tape s.me met) ((applies ++ now.valid) ++ now.answers)) (sym apart) (each_both (RestNote s.cluster tape s.me base) (applies ++ now.valid) now.answers
        (each_both (RestNote s.cluster tape s.me base) applies now.valid (applies_rest s.cluster tape s.me base s node.met node.stored now.met now.stored) (valid_rest s.cluster tape s.me base now.valid (all.acted).valid))
        (answers_rest s.cluster tape s.me base now.answers (ticked_it Answering answering_lasts s clock node.open_operations (at_first base (portion_of s node.met node.stored)) tt)));
    k = all.k;
    opens = kept_with now.sends (acquires_at s.cluster s.me node.met clock) (background s node.met clock) all.k (acquires_plain s node.met clock) (background_plain s node.met clock) now.kept (all.acted).kept;
    own = each_both (Own s.me all.k) (acquires_at s.cluster s.me node.met clock ++ now.sends) (background s node.met clock)
        (each_both (Own s.me all.k) (acquires_at s.cluster s.me node.met clock) now.sends (plain_owns all.k (acquires_at s.cluster s.me node.met clock) (acquires_plain s node.met clock)) (all.acted).own)
        (plain_owns all.k (background s node.met clock) (background_plain s node.met clock));
  }
    where
      leases : List Met
      leases = lease_notes s node.met clock

      lapses : List Met
      lapses = lapse_notes s node.met clock

      base : List Met
      base = onto lapses (onto leases (Ticks clock ∷ node.met))

      apart : onto (leases ++ lapses) (Ticks clock ∷ node.met) ≡ base
      apart = onto_append leases lapses (Ticks clock ∷ node.met)

      now : Now
      now = fold (ticked s clock) (at_first base (portion_of s node.met node.stored)) node.open_operations

      applies : List Met
      applies = apply_notes s node.met node.stored now.met now.stored

      shown_base : Shows base
      shown_base = subst Shows apart shows

      all : AllActed s tape base shown_base now
      all = all_ticked_acted s tape base shown_base clock node.open_operations 0 (at_first base (portion_of s node.met node.stored)) rising opens
          (record { same = record { serves = refl; beaten = λ g. refl; decided = λ g n. refl }; valid = tt; kept = tt; own = tt })

  kept_open : (k : ℕ) → (os : List Operation) → Each (OpenAt s.cluster tape s.me) os → Each (λ (o : Operation). (o.id).number < k) os → Each (OpenBelow s.cluster tape [] s.me k) os
  kept_open k [] h b = tt
  kept_open k (o ∷ os) h b = (record { node = (h.0).node; below = b.0; knows = (h.0).knows; quiet = (h.0).quiet }, kept_open k os h.1 b.1)

  begin_knows : (request : Request) (text : List ℕ) (k : ℕ) → Each (λ (o : Operation). (o.id).number < k) node.open_operations → (refusal s node request ≡ None → k ≤ (op_of s node.met).number) → ((g : GroupId) → has_polled tape (op_of s node.met) g ≡ false)
      → Each (OpenAt s.cluster tape s.me) node.open_operations → Shows (behind_fronts s node (Begin request text)) → StepKnows s tape node (Begin request text) (begin_step s node request text)
  begin_knows request text k below above quiet opens shows = record {
    durable = [];
    only = tt;
    more = (applies ++ now.valid) ++ now.answers;
    is = refl;
    each = each_both (RestNote s.cluster tape s.me base) (applies ++ now.valid) now.answers
        (each_both (RestNote s.cluster tape s.me base) applies now.valid (applies_rest s.cluster tape s.me base s node.met node.stored now.met now.stored) (valid_rest s.cluster tape s.me base now.valid (all.acted).valid))
        (answers_rest s.cluster tape s.me base now.answers (begun_it Answering answering_lasts s begin (new_operation (op_of s node.met) request (clock_of node.met)) (refusal s node request) tt));
    k = all.k;
    opens = (all.acted).kept;
    own = (all.acted).own;
  }
    where
      base : List Met
      base = Begins (op_of s node.met) text ∷ node.met

      begin : Now
      begin = at_open (at_first base node.stored) node.open_operations

      now : Now
      now = unless_refused s begin (new_operation (op_of s node.met) request (clock_of node.met)) (refusal s node request)

      applies : List Met
      applies = apply_notes s node.met node.stored now.met now.stored

      raised : (l : ℕ) → k ≤ l → Each (OpenBelow s.cluster tape [] s.me l) node.open_operations
      raised l le = kept_open l node.open_operations opens (each_on (λ (o : Operation). (o.id).number < k) (λ (o : Operation). (o.id).number < l) (λ o less. omega (arith, less, le)) node.open_operations below)

      all : AllActed s tape base shows now
      all = begins_acted s tape base shows begin (op_of s node.met) request (clock_of node.met) (refusal s node request)
          (λ none. record { same = record { serves = refl; beaten = λ g. refl; decided = λ g n. refl }; valid = tt; kept = raised (op_of s node.met).number (above none); own = tt; node = refl; quiet = λ g unseen. (quiet g, refl) })
          (λ answer. record { k = k; acted = record { same = record { serves = refl; beaten = λ g. refl; decided = λ g n. refl }; valid = tt; kept = raised k (omega arith); own = tt } })

-- ---- what holds of each item

-- by the greatest position that was invalidated, and else as it is promised
record Polled (c : Cluster) (tape : List Item) (node : ℕ) (group : GroupId) (p : Position) : Type 0 where
  epoch : Epoch
  serves : serving_on tape node ≡ Some epoch
  op : OpId
  moment : List Item
  earlier : Earlier moment tape
  served_then : serving_on moment node ≡ Some epoch
  fresh : has_polled moment op group ≡ false
  polled : IsPolled c tape op group p
  has : (p.0 ≡ 0) ⊎ ((entry : Content) × Stands (Decide (number node) group p entry) tape)
  above : beaten_on tape node group ≤ p.0

abbrev IsByPoll : Cluster → List Item → Item → Type 0
IsByPoll c before (Valid node group p) = Polled c before node.0 group p
IsByPoll c before _ = Unit {0}

to_validated : (c : Cluster) (tape : List Item) → Are IsServing tape → Are (IsByPoll c) tape → Are (IsValidated c) tape
to_validated c [] rules h = tt
to_validated c (item ∷ before) rules h = (one item h.0, to_validated c before rules.1 h.1)
  where
    one : (x : Item) → IsByPoll c before x → IsValidated c before x
    one (Valid node group p) k = record {
      epoch = k.epoch;
      serves = k.serves;
      op = k.op;
      moment = k.moment;
      earlier = k.earlier;
      served = k.served_then;
      fresh = k.fresh;
      test = (k.polled).test;
      majority = (k.polled).majority;
      heard = (k.polled).heard;
      decided = k.has;
      above = λ n stood. (let most = invalid_most node.0 k.epoch group n before rules.1 k.serves stood in let least = k.above in omega (arith, most, least));
    }
    one _ k = tt

-- a tape behind the first notes and what was decided
record Ready (c : Cluster) (start_tape : List Item) (me : ℕ) (base : List Met) (tape : List Item) : Type 0 where
  later : Earlier start_tape tape
  serves : (e : Epoch) → serves_at c base ≡ Some e → serving_on tape me ≡ Some e
  known : Known me base tape
  above : (e : Epoch) → serves_at c base ≡ Some e → (g : GroupId) → beaten_on tape me g ≤ beaten_at c base g

module _ (c : Cluster) (nodes' : ℕ → Node) (me : ℕ) where
  module _ (start_tape : List Item) (base : List Met) where
    abbrev ReadyAt : List Item → Type 0
    ReadyAt tape = Ready c start_tape me base tape

    by_poll : (tape : List Item) (group : GroupId) (p : ℕ) → ReadyAt tape → MayNote c start_tape me base group p → Polled c tape me group (record { 0 = p })
    by_poll tape group p r h = record {
      epoch = h.epoch;
      serves = r.serves h.epoch h.serves;
      op = h.op;
      moment = (h.began).moment;
      earlier = then_later (h.began).moment start_tape tape (h.began).earlier r.later;
      served_then = (h.began).served;
      fresh = (h.began).fresh;
      polled = record {
        test = (h.polled).test;
        majority = (h.polled).majority;
        heard = λ voter t. let told = (h.polled).heard voter t in (told.0, took_on start_tape tape (earlier_stood start_tape tape r.later) _ told.1, told.2);
      };
      has = elim h.has [ inl none ↦ inl none | inr d ↦ inr (d.entry, r.known group p d.entry d.is) ];
      above = (let most = r.above h.epoch h.serves group in let least = h.above in omega (arith, most, least));
    }

    rest_follow : (notes : List Met) (tape : List Item) → ReadyAt tape → Each (RestNote c start_tape me base) notes → Follows (IsByPoll c) (λ t. tt) c nodes' tape (flat_map (shown me) notes)
    rest_follow [] tape r h = tt
    rest_follow (Validates group p ∷ notes) tape r h = (
      by_poll tape group p r h.0,
      rest_follow notes (Valid (number me) group (record { 0 = p }) ∷ tape)
          (record { later = one_later start_tape tape (Valid (number me) group (record { 0 = p })) r.later; serves = r.serves; known = λ g n e k. inr (r.known g n e k); above = r.above }) h.1,
    )
    rest_follow (Applies group p ∷ notes) tape r h = (
      tt,
      rest_follow notes (Apply (number me) group (record { 0 = p }) ∷ tape)
          (record { later = one_later start_tape tape (Apply (number me) group (record { 0 = p })) r.later; serves = r.serves; known = λ g n e k. inr (r.known g n e k); above = r.above }) h.1,
    )
    rest_follow (Answers op answer ∷ notes) tape r h = (
      tt,
      rest_follow notes (AnswerItem op answer ∷ tape)
          (record { later = one_later start_tape tape (AnswerItem op answer) r.later; serves = r.serves; known = λ g n e k. inr (r.known g n e k); above = r.above }) h.1,
    )
    rest_follow (_ ∷ notes) tape r h = absurd h.0

  -- a decision becomes known as it stands
  known_one : (g : GroupId) (n : ℕ) (entry : Content) (base : List Met) (tape : List Item) → Known me base tape → Known me (Decides g n entry ∷ base) (Decide (number me) g (record { 0 = n }) entry ∷ tape)
  known_one g n entry base tape known h m x = by (same_group g h && n == m) refl
    where
      first : (same_group g h && n == m) ≡ true → (o : Option Content) → decided base h m ≡ o → first_of o entry ≡ Some x → Stands (Decide (number me) h (record { 0 = m }) x) (Decide (number me) g (record { 0 = n }) entry ∷ tape)
      first at (Some y) is k = inr (known h m x (is ∙ k))
      first at None is k = let parts = and_parts (same_group g h) (n == m) at in
          inl (λ i. Decide (number me) (same_group_equal g h parts.0 i) (record { 0 = number_is n m parts.1 i }) (some_is entry x k i))

      by : (t : Bool) → (same_group g h && n == m) ≡ t → cond t (first_of (decided base h m) entry) (decided base h m) ≡ Some x → Stands (Decide (number me) h (record { 0 = m }) x) (Decide (number me) g (record { 0 = n }) entry ∷ tape)
      by true at k = first at (decided base h m) refl k
      by false at k = inr (known h m x k)

  durable_ready : (start_tape : List Item) (durable base : List Met) (tape : List Item) → Each IsDecision durable → Ready c start_tape me base tape → Ready c start_tape me (onto durable base) (with_items c nodes' tape (flat_map (shown me) durable))
  durable_ready start_tape [] base tape only r = r
  durable_ready start_tape (Decides g n entry ∷ durable) base tape only r = durable_ready start_tape durable (Decides g n entry ∷ base) (Decide (number me) g (record { 0 = n }) entry ∷ tape) only.1 (record {
    later = one_later start_tape tape (Decide (number me) g (record { 0 = n }) entry) r.later;
    serves = r.serves;
    known = known_one g n entry base tape r.known;
    above = r.above;
  })
  durable_ready start_tape (_ ∷ durable) base tape only r = absurd only.0

  -- notes that are no call validate nothing
  free_one : (note : Met) → IsNoCall note → Each (IsFree (IsByPoll c) (λ t. tt) c nodes') (shown me note)
  free_one (Starts start) h = absurd h
  free_one (Ticks now) h = absurd h
  free_one (Takes message) h = absurd h
  free_one (Validates group position) h = absurd h
  free_one Crashes h = (λ t. tt, tt)
  free_one (Begins op text) h = (λ t. tt, tt)
  free_one (Sends message) h = tt
  free_one (Unsends message) h = (λ t. tt, tt)
  free_one (Grants node epoch) h = (λ t. tt, tt)
  free_one (Lapses node epoch) h = (λ t. tt, tt)
  free_one (Counts cell epoch) h = (λ t. tt, tt)
  free_one (Forgets cell epoch) h = (λ t. tt, tt)
  free_one (Serves epoch) h = (λ t. tt, tt)
  free_one (Loses epoch) h = (λ t. tt, tt)
  free_one (Invalidates group position) h = (λ t. tt, tt)
  free_one (Decides group position entry) h = (λ t. tt, tt)
  free_one (Applies group position) h = (λ t. tt, tt)
  free_one (Answers op answer) h = (λ t. tt, tt)

  no_call_follow : (notes : List Met) (tape : List Item) → Each IsNoCall notes → Follows (IsByPoll c) (λ t. tt) c nodes' tape (flat_map (shown me) notes)
  no_call_follow notes tape h = free_follows (IsByPoll c) (λ t. tt) c nodes' (flat_map (shown me) notes) tape
      (free_notes (IsByPoll c) (λ t. tt) c nodes' me notes (each_on IsNoCall (λ note. Each (IsFree (IsByPoll c) (λ t. tt) c nodes') (shown me note)) free_one notes h))

-- ---- what was asked

pub silent_polled : (tape : List Item) (item : Item) (op : OpId) (group : GroupId) → IsSilent item → has_polled (item ∷ tape) op group ≡ has_polled tape op group
silent_polled tape (Sent key m) op group h = absurd h
silent_polled tape _ op group h = refl

module _ (c : Cluster) (nodes' : ℕ → Node) where
  item_polled : (tape : List Item) (item : Item) (op : OpId) (group : GroupId) → IsSilent item → has_polled (with_item c nodes' tape item) op group ≡ has_polled tape op group
  item_polled tape item op group silent = by (breaks c nodes' item && not (is_unsafe tape))
    where
      by : (t : Bool) → has_polled (cond t (Unsafe ∷ item ∷ tape) (item ∷ tape)) op group ≡ has_polled tape op group
      by true = silent_polled tape item op group silent
      by false = silent_polled tape item op group silent

  items_polled : (items tape : List Item) (op : OpId) (group : GroupId) → Each IsSilent items → has_polled (with_items c nodes' tape items) op group ≡ has_polled tape op group
  items_polled [] tape op group silent = refl
  items_polled (item ∷ items) tape op group silent = items_polled items (with_item c nodes' tape item) op group silent.1 ∙ item_polled tape item op group silent.0

sent_polled : (n : ℕ) (ms : List Message) (tape : List Item) (op : OpId) (group : GroupId) → polls_in ms op group ≡ false → has_polled tape op group ≡ false → has_polled (sent n ms tape) op group ≡ false
sent_polled n [] tape op group h k = k
sent_polled n (m ∷ ms) tape op group h k = let parts = or_parts (asks_end op group m.body) (polls_in ms op group) h in
    sent_polled (n + 1) ms (Sent n m ∷ tape) op group parts.1 (or_from (asks_end op group m.body) (has_polled tape op group) parts.0 k)

-- who asked nothing asked about no group
pub unasked_unpolled : (tape : List Item) (op : OpId) (group : GroupId) → has_asked tape op ≡ false → has_polled tape op group ≡ false
unasked_unpolled [] op group h = refl
unasked_unpolled (Sent key m ∷ tape) op group h = let parts = or_parts (is_asking op m.body) (has_asked tape op) h in
    or_from (asks_end op group m.body) (has_polled tape op group) (by m.body parts.0) (unasked_unpolled tape op group parts.1)
  where
    by : (body : Body) → is_asking op body ≡ false → asks_end op group body ≡ false
    by (Where asking g) is = ap (λ t. t && same_group g group) is
    by _ is = refl
unasked_unpolled (_ ∷ tape) op group h = unasked_unpolled tape op group h

-- a node asks nothing for operations of others
polls_foreign : (me k : ℕ) (x : OpId) (group : GroupId) (ms : List Message) → (me == x.node.0) ≡ false → Each (Own me k) ms → polls_in ms x group ≡ false
polls_foreign me k x group [] apart own = refl
polls_foreign me k x group (m ∷ ms) apart own = or_from (asks_end x group m.body) (polls_in ms x group) (by m.body own.0) (polls_foreign me k x group ms apart own.1)
  where
    other : (op : OpId) → op.node.0 ≡ me → same_op op x ≡ false
    other op node = within (same_op op x) refl
      where
        within : (t : Bool) → same_op op x ≡ t → t ≡ false
        within false e = refl
        within true e = absurd (let clashing = sym (number_self x.node.0) ∙ ap (λ (y : OpId). y.node.0 == x.node.0) (sym (same_op_equal op x e)) ∙ ap (λ v. v == x.node.0) node ∙ apart in cc)

    by : (body : Body) → OwnBody me k body → asks_end x group body ≡ false
    by (Where op g) h = ap (λ t. t && same_group g group) (other op h.0)
    by _ h = refl

-- ---- standings

pub record Validating (c : Cluster) (tape : List Item) (nodes : ℕ → Node) (owed : ℕ → List Met) : Type 0 where
  rules : Are (IsByPoll c) tape
  opens : (v : ℕ) → Each (OpenAt c tape v) (nodes v).open_operations
  idle : (v : ℕ) → is_full c v ≡ false → IsIdle c (nodes v).met
  beats : (v : ℕ) → is_full c v ≡ true → is_up (nodes v).met ≡ true → Beats c (nodes v).met
  told : (g : GroupId) (v : ℕ) → beaten_on tape v g ≡ beaten_met (nodes v).met g

abbrev pub Ruled : Cluster → Standing → Type 0
Ruled c now = Before c now × Epoching c now.tape now.node now.owed

open_on : (c : Cluster) (old new : List Item) (v : ℕ) → Earlier old new → ((x : OpId) → x.node.0 ≡ v → (g : GroupId) → has_polled old x g ≡ false → has_polled new x g ≡ false) → (o : Operation) → OpenAt c old v o → OpenAt c new v o
open_on c old new v later still o h = record {
  node = h.node;
  knows = phase_on c old new v o.id o.visited o.phase later h.knows;
  quiet = λ g unseen. (still o.id h.node g (h.quiet g unseen).0, refl);
}

-- who is granted an epoch is full
abbrev FullIf : Cluster → ℕ → Body → Type 0
FullIf c to (GrantedBody cell epoch clock) = is_full c to ≡ true
FullIf c to _ = Unit {0}

granted_full : (c : Cluster) (j : ℕ) (m : Message) (tape : List Item) → Are IsTold tape → Are (IsGiven c) tape → Stands (Sent j m) tape → FullIf c m.to m.body
granted_full c j m [] told given s = absurd s
granted_full c j m (item ∷ before) told given (inl same) = by m.to m.body (subst (IsTold before) same told.0)
  where
    by : (to : ℕ) (body : Body) → Tells before to body → FullIf c to body
    by to (GrantedBody cell epoch clock) k = of_given c before cell (number to) epoch given.1 k
    by to _ k = tt
granted_full c j m (item ∷ before) told given (inr s) = granted_full c j m before told.1 given.1 s

less_is : (a b : ℕ) → nat_le a b ≡ false → b < a
less_is a b h = grind (arith, nat_tests)

pub next_is : (b last : ℕ) → nat_le (last - 1) b ≡ false → b + 1 ≤ min (b + 1) last
next_is b last h = let less = less_is (last - 1) b h in omega (arith, less)

plain_decided : (notes met : List Met) → Each IsPlain notes → (g : GroupId) (n : ℕ) → decided (onto notes met) g n ≡ decided met g n
plain_decided [] met h g n = refl
plain_decided (Grants node epoch ∷ notes) met h g n = plain_decided notes (Grants node epoch ∷ met) h.1 g n
plain_decided (Lapses node epoch ∷ notes) met h g n = plain_decided notes (Lapses node epoch ∷ met) h.1 g n
plain_decided (Counts cell epoch ∷ notes) met h g n = plain_decided notes (Counts cell epoch ∷ met) h.1 g n
plain_decided (Forgets cell epoch ∷ notes) met h g n = plain_decided notes (Forgets cell epoch ∷ met) h.1 g n
plain_decided (Serves epoch ∷ notes) met h g n = plain_decided notes (Serves epoch ∷ met) h.1 g n
plain_decided (Loses epoch ∷ notes) met h g n = plain_decided notes (Loses epoch ∷ met) h.1 g n
plain_decided (Validates group position ∷ notes) met h g n = plain_decided notes (Validates group position ∷ met) h.1 g n
plain_decided (Invalidates group position ∷ notes) met h g n = plain_decided notes (Invalidates group position ∷ met) h.1 g n
plain_decided (Applies group position ∷ notes) met h g n = plain_decided notes (Applies group position ∷ met) h.1 g n
plain_decided (_ ∷ notes) met h g n = absurd h.0

pub fronts_plain : (s : Setting) (node : Node) (event : Event) → Each IsPlain (fronts s node event)
fronts_plain s node (Tick clock) = each_both IsPlain (lease_notes s node.met clock) (lapse_notes s node.met clock) (lease_plain s node.met clock) (lapses_plain s node.met clock)
fronts_plain s node (Take m) = told_plain s node.met m.from m.body
fronts_plain s node (Begin request text) = tt

pub own_decided : (s : Setting) (met : List Met) (event : Event) (g : GroupId) (n : ℕ) → decided (met_in s met event ∷ met) g n ≡ decided met g n
own_decided s met (Tick clock) g n = refl
own_decided s met (Take m) g n = refl
own_decided s met (Begin request text) g n = refl

pub own_item : (item : Item) → IsOwn item → IsSilent item
own_item (Sent key m) h = absurd h
own_item _ h = tt

own_free : (c : Cluster) (t : List Item) (item : Item) → IsOwn item → IsByPoll c t item
own_free c t (Valid node group p) h = absurd h
own_free c t _ h = tt

serving_each : (one : Met) (met : List Met) → serving_met (one ∷ met) ≡ next_serving one (serving_met met)
serving_each one met = refl

beaten_each : (g : GroupId) (one : Met) (met : List Met) → beaten_met (one ∷ met) g ≡ next_beaten g one (beaten_met met g)
beaten_each g one met = refl

-- ---- a step

module _ (c : Cluster) (h : Meanings) (now : Standing) (me : ℕ) (up : is_up (now.node me).met ≡ true) (g : Good nobody c now) (p : Ruled c now) (q : Validating c now.tape now.node now.owed) where
  abbrev s : Setting
  s = setting c h me

  abbrev node : Node
  node = now.node me

  abbrev made : Event → Step
  made event = step s node event

  abbrev those : Event → ℕ → Node
  those event = set_at now.node me (made event).node

  module _ (item : Item) (event : Event) (o : Occurs now.tape s node.met item event) where
    abbrev nodes' : ℕ → Node
    nodes' = those event

    abbrev base : List Met
    base = behind_fronts s node event

    abbrev first : List Item
    first = item ∷ now.tape

    abbrev behind : List Item
    behind = with_items c nodes' first (flat_map (shown me) (fronts s node event))

    abbrev second : List Item
    second = with_items c nodes' first (flat_map (shown me) (made event).notes)

    own_is : IsOwn item
    own_is = occurs_own now.tape s node.met item event o

    first_later : Earlier now.tape first
    first_later = one_later now.tape now.tape item (now_is now.tape)

    behind_later : Earlier first behind
    behind_later = items_later c nodes' (flat_map (shown me) (fronts s node event)) first

    now_behind : Earlier now.tape behind
    now_behind = then_later now.tape first behind first_later behind_later

    behind_polled : (x : OpId) (group : GroupId) → has_polled behind x group ≡ has_polled now.tape x group
    behind_polled x group = items_polled c nodes' (flat_map (shown me) (fronts s node event)) first x group (notes_silent me (fronts s node event)) ∙ silent_polled now.tape item x group (own_item item own_is)

    second_polled : (x : OpId) (group : GroupId) → has_polled second x group ≡ has_polled now.tape x group
    second_polled x group = items_polled c nodes' (flat_map (shown me) (made event).notes) first x group (notes_silent me (made event).notes) ∙ silent_polled now.tape item x group (own_item item own_is)

    -- ---- what the tape tells behind the first notes

    abbrev met_behind : Node
    met_behind = record { met = base; open_operations = []; stored = node.stored }

    behind_serving : serving_on behind me ≡ serving_met base
    behind_serving = told_notes_of serving_on next_serving tells_serving serving_met serving_each c now.tape now.node ((p.0).0).serving nodes' me met_behind first (met_in s node.met event ∷ node.met) (fronts s node event)
        (λ w. tells_serving.own item own_is now.tape w) (tells_serving.own_note (met_in s node.met event) (own_noted s node.met event) (serving_met node.met)) refl me
        ∙ ap (λ (x : Node). serving_met x.met) (at_me now.node me met_behind)

    behind_beaten : (group : GroupId) → beaten_on behind me group ≡ beaten_met base group
    behind_beaten group = told_notes_of (λ t v. beaten_on t v group) (next_beaten group) (tells_beaten group) (λ met. beaten_met met group) (beaten_each group) c now.tape now.node (q.told group) nodes' me met_behind first (met_in s node.met event ∷ node.met) (fronts s node event)
        (λ w. (tells_beaten group).own item own_is now.tape w) ((tells_beaten group).own_note (met_in s node.met event) (own_noted s node.met event) (beaten_met node.met group)) refl me
        ∙ ap (λ (x : Node). beaten_met x.met group) (at_me now.node me met_behind)

    last_serving : serving_met ((made event).node).met ≡ serving_met base
    last_serving = let parts = step_parts s node event in
        ap serving_met (step_met s node event) ∙ sends_serve (made event).sends (onto (made event).notes (met_in s node.met event ∷ node.met))
        ∙ ap serving_met (ap (λ notes. onto notes (met_in s node.met event ∷ node.met)) parts.is ∙ onto_append (fronts s node event) parts.rest (met_in s node.met event ∷ node.met)) ∙ rest_serves parts.rest base parts.each

    no_grant : is_full c me ≡ false → NoGrant event
    no_grant none = by event o
      where
        of_body : (to : ℕ) (body : Body) → to ≡ me → FullIf c to body → NoGrantBody body
        of_body to (GrantedBody cell epoch clock) same full = clash (is_full c me) (ap (is_full c) (sym same) ∙ full) none
        of_body to _ same full = tt

        by : (event : Event) → Occurs now.tape s node.met item event → NoGrant event
        by (Tick clock) o = tt
        by (Begin request text) o = tt
        by (Take m) o = of_body m.to m.body o.3 (granted_full c o.0 m now.tape (p.1).told ((p.0).1).grants o.2)

    shows : (e : Epoch) → serves_at c base ≡ Some e → serving_on behind me ≡ Some e
    shows e is = by (is_full c me) refl
      where
        by : (t : Bool) → is_full c me ≡ t → serving_on behind me ≡ Some e
        by true full = behind_serving ∙ sym last_serving ∙ (step_agrees s full node (((p.0).0).agrees me full up) event).serves ∙ (step_unchanged s node event).serves ∙ is
        by false none = absurd (let some = sym is ∙ sym (step_unchanged s node event).serves ∙ idle_none c ((made event).node).met (step_idle s node event (no_grant none) (q.idle me none)) in cc)

    above : (e : Epoch) → serves_at c base ≡ Some e → (group : GroupId) → beaten_on behind me group ≤ beaten_at c base group
    above e is group = subst (λ x. x ≤ beaten_at c base group) (sym (behind_beaten group)) (by (is_full c me) refl)
      where
        by : (t : Bool) → is_full c me ≡ t → beaten_met base group ≤ beaten_at c base group
        by true full = fronts_beat s full node event (q.beats me full up) e is group
        by false none = absurd (let some = sym is ∙ sym (step_unchanged s node event).serves ∙ idle_none c ((made event).node).met (step_idle s node event (no_grant none) (q.idle me none)) in cc)

    known : Known me base behind
    known group n e is = earlier_stood now.tape behind now_behind (Decide (number me) group (record { 0 = n }) e)
        ((g.node me).known group n e (sym (plain_decided (fronts s node event) (met_in s node.met event ∷ node.met) (fronts_plain s node event) group n ∙ own_decided s node.met event group n) ∙ is))

    ready : Ready c behind me base behind
    ready = record { later = now_is behind; serves = shows; known = known; above = above }

    behind_opens : Each (OpenAt c behind me) node.open_operations
    behind_opens = each_on (OpenAt c now.tape me) (OpenAt c behind me) (open_on c now.tape behind me now_behind (λ x at group was. behind_polled x group ∙ was)) node.open_operations (q.opens me)

    knows : StepKnows s behind node event (made event)
    knows = by event o behind behind_opens behind_later behind_polled shows
      where
        by : (event : Event) → Occurs now.tape s node.met item event → (tape : List Item) → Each (OpenAt c tape me) node.open_operations → Earlier first tape → ((x : OpId) (group : GroupId) → has_polled tape x group ≡ has_polled now.tape x group)
            → ((e : Epoch) → serves_at c (behind_fronts s node event) ≡ Some e → serving_on tape me ≡ Some e) → StepKnows s tape node event (step s node event)
        by (Tick clock) o tape opens later polls shows = tick_knows s tape node clock (g.node me).rising opens shows
        by (Take m) o tape opens later polls shows = take_knows s tape node m (took_on first tape (earlier_stood first tape later) (message m.from me m.body)
            (record { number = o.0; sent = inr (subst (λ to. Stands (Sent o.0 (message m.from to m.body)) now.tape) o.3 o.2); taken = inl o.1 })) (g.node me).rising opens shows
        by (Begin request text) o tape opens later polls shows = begin_knows s tape node request text (begun_of node.met + 1)
            (each_on (Held nobody c now.tape me (start_of node.met) (begun_of node.met + 1) node.met) (λ (x : Operation). (x.id).number < begun_of node.met + 1) (λ x held. held.below) node.open_operations (g.node me).held)
            (λ none. next_is (begun_of node.met) last_number (not_worn (is_worn node.met) (unless_missing node.open_operations (missing_kind request (kind_of c me))) none))
            (λ group. polls (op_of s node.met) group ∙ unasked_unpolled now.tape (op_of s node.met) group (never_asked nobody s now g)) opens shows

    -- ---- each note as it comes

    notes_follow : Follows (IsByPoll c) (λ t. tt) c nodes' first (flat_map (shown me) (made event).notes)
    notes_follow = subst (Follows (IsByPoll c) (λ t. tt) c nodes' first) (sym spread)
        (both_follow (IsByPoll c) (λ t. tt) c nodes' (fronts_shown ++ durable_shown) more_shown first
        (both_follow (IsByPoll c) (λ t. tt) c nodes' fronts_shown durable_shown first (no_call_follow c nodes' me (fronts s node event) first (fronts_no_call s node event)) (no_call_follow c nodes' me knows.durable behind (decision_no_call knows.durable knows.only)))
        (subst (λ t. Follows (IsByPoll c) (λ x. tt) c nodes' t more_shown) (sym (with_append c nodes' fronts_shown durable_shown first))
        (rest_follow c nodes' me behind (onto knows.durable base) knows.more (with_items c nodes' behind durable_shown) (durable_ready c nodes' me behind knows.durable base behind knows.only ready) knows.each)))
      where
        fronts_shown : List Item
        fronts_shown = flat_map (shown me) (fronts s node event)

        durable_shown : List Item
        durable_shown = flat_map (shown me) knows.durable

        more_shown : List Item
        more_shown = flat_map (shown me) knows.more

        spread : flat_map (shown me) (made event).notes ≡ (fronts_shown ++ durable_shown) ++ more_shown
        spread = ap (flat_map (shown me)) knows.is ∙ flat_map-append (shown me) (fronts s node event ++ knows.durable) knows.more ∙ ap (λ xs. xs ++ more_shown) (flat_map-append (shown me) (fronts s node event) knows.durable)

    second_rules : Are (IsByPoll c) second
    second_rules = are_items (IsByPoll c) (λ t. tt) c nodes' (flat_map (shown me) (made event).notes) first notes_follow (own_free c now.tape item own_is, q.rules)

    sent_rules : (n : ℕ) (ms : List Message) (t : List Item) → Are (IsByPoll c) t → Are (IsByPoll c) (sent n ms t)
    sent_rules n [] t a = a
    sent_rules n (m ∷ ms) t a = sent_rules (n + 1) ms (Sent n m ∷ t) (tt, a)

    abbrev third : List Item
    third = stepped c nodes' me now.tape item (made event)

    second_later : Earlier first second
    second_later = items_later c nodes' (flat_map (shown me) (made event).notes) first

    behind_second : Earlier behind second
    behind_second = subst (Earlier behind) (sym (ap (with_items c nodes' first) spread ∙ with_append c nodes' fronts_shown rest_shown first)) (items_later c nodes' rest_shown behind)
      where
        fronts_shown : List Item
        fronts_shown = flat_map (shown me) (fronts s node event)

        rest_shown : List Item
        rest_shown = flat_map (shown me) (step_parts s node event).rest

        spread : flat_map (shown me) (made event).notes ≡ fronts_shown ++ rest_shown
        spread = ap (flat_map (shown me)) (step_parts s node event).is ∙ flat_map-append (shown me) (fronts s node event) (step_parts s node event).rest

    second_third : Earlier second third
    second_third = sent_later (sent_count now.tape + 1) (made event).sends second

    third_later : Earlier now.tape third
    third_later = then_later now.tape second third (then_later now.tape first second first_later second_later) second_third

    opens_then : (v : ℕ) → Each (OpenAt c third v) (nodes' v).open_operations
    opens_then = by_node (λ v x. Each (OpenAt c third v) x.open_operations) now.node me (made event).node
        (each_on (OpenBelow c behind (made event).sends me knows.k) (OpenAt c third me) (λ x kept. record {
          node = kept.node;
          knows = phase_on c behind third me x.id x.visited x.phase (then_later behind second third behind_second second_third) kept.knows;
          quiet = λ group unseen. let was = kept.quiet group unseen in (sent_polled (sent_count now.tape + 1) (made event).sends second x.id group was.1 (second_polled x.id group ∙ sym (behind_polled x.id group) ∙ was.0), refl);
        }) ((made event).node).open_operations knows.opens)
        (λ v apart. each_on (OpenAt c now.tape v) (OpenAt c third v) (open_on c now.tape third v third_later (λ x at group was.
        sent_polled (sent_count now.tape + 1) (made event).sends second x group (polls_foreign me knows.k x group (made event).sends (ap (λ w. me == w) at ∙ apart) knows.own) (second_polled x group ∙ was))) (now.node v).open_operations (q.opens v))

    steps_validating : Validating c third nodes' now.owed
    steps_validating = record {
      rules = sent_rules (sent_count now.tape + 1) (made event).sends second second_rules;
      opens = opens_then;
      idle = by_node (λ v x. is_full c v ≡ false → IsIdle c x.met) now.node me (made event).node (λ none. step_idle s node event (no_grant none) (q.idle me none)) (λ v apart. q.idle v);
      beats = by_node (λ v x. is_full c v ≡ true → is_up x.met ≡ true → Beats c x.met) now.node me (made event).node (λ full still. step_beats s full node event (q.beats me full up)) (λ v apart. q.beats v);
      told = λ group. steps_told (λ t v. beaten_on t v group) (next_beaten group) (tells_beaten group) (λ met. beaten_met met group) (beaten_each group) c now.tape now.node (q.told group) nodes' me item (met_in s node.met event) (made event) own_is
          (own_noted s node.met event) (step_met s node event);
    }

    -- it is cut
    abbrev node2 : Node
    node2 = down (met_in s node.met event) node

    cuts_validating : (owed : ℕ → List Met) → Validating c (Crash (number me) ∷ item ∷ now.tape) (set_at now.node me node2) owed
    cuts_validating owed = record {
      rules = (tt, (own_free c now.tape item own_is, q.rules));
      opens = by_node (λ v x. Each (OpenAt c cut v) x.open_operations) now.node me node2 tt
          (λ v apart. each_on (OpenAt c now.tape v) (OpenAt c cut v) (open_on c now.tape cut v cut_later (λ x at group was. silent_polled now.tape item x group (own_item item own_is) ∙ was)) (now.node v).open_operations (q.opens v));
      idle = by_node (λ v x. is_full c v ≡ false → IsIdle c x.met) now.node me node2 (λ none. own_idle s node.met event (no_grant none) (q.idle me none)) (λ v apart. q.idle v);
      beats = by_node (λ v x. is_full c v ≡ true → is_up x.met ≡ true → Beats c x.met) now.node me node2 (λ full still. cc) (λ v apart. q.beats v);
      told = λ group. cuts_told (λ t v. beaten_on t v group) (next_beaten group) (tells_beaten group) (λ met. beaten_met met group) (beaten_each group) c now.tape now.node (q.told group) me item (met_in s node.met event) node2 own_is (own_noted s node.met event) refl;
    }
      where
        cut : List Item
        cut = Crash (number me) ∷ item ∷ now.tape

        cut_later : Earlier now.tape cut
        cut_later = one_later now.tape first (Crash (number me)) first_later

-- ---- starts, crashes and marks

pub owed_no_call : (notes : List Met) → Each IsOwed notes → Each IsNoCall notes
owed_no_call notes h = each_on IsOwed IsNoCall one notes h
  where
    one : (note : Met) → IsOwed note → IsNoCall note
    one (Grants to epoch) k = tt
    one (Lapses to epoch) k = tt
    one (Decides group position entry) k = tt
    one (Unsends message) k = tt
    one (Applies group position) k = tt
    one _ k = absurd k

module _ (c : Cluster) (h : Meanings) (now : Standing) (me count : ℕ) (p : Ruled c now) (q : Validating c now.tape now.node now.owed) where
  abbrev begun : Setting
  begun = setting c h me

  abbrev was : List Met
  was = (now.node me).met

  abbrev shows_then : List Met
  shows_then = now.owed me ++ start_notes begun (onto (now.owed me) (Starts count ∷ was))

  abbrev fresh : Node
  fresh = start begun count (now.owed me) was

  abbrev begun_nodes : ℕ → Node
  begun_nodes = set_at now.node me fresh

  then_no_call : Each IsNoCall shows_then
  then_no_call = owed_no_call shows_then (each_both IsOwed (now.owed me) (start_notes begun (onto (now.owed me) (Starts count ∷ was))) (((p.0).1).cell me).owes (start_owed begun (onto (now.owed me) (Starts count ∷ was))))

  fresh_uncalled : Uncalled c fresh.met (Starts count ∷ was)
  fresh_uncalled = uncalled_all c shows_then (Starts count ∷ was) then_no_call

  fresh_none : serves_at c fresh.met ≡ None
  fresh_none = uncalled_serves c fresh.met (Starts count ∷ was) fresh_uncalled

  abbrev start_tape : List Item
  start_tape = with_items c begun_nodes now.tape (flat_map (shown me) (Starts count ∷ shows_then))

  start_later : Earlier now.tape start_tape
  start_later = items_later c begun_nodes (flat_map (shown me) (Starts count ∷ shows_then)) now.tape

  starts_validating : (owed : ℕ → List Met) → Validating c start_tape begun_nodes owed
  starts_validating owed = record {
    rules = are_items (IsByPoll c) (λ t. tt) c begun_nodes (flat_map (shown me) (Starts count ∷ shows_then)) now.tape (tt, no_call_follow c begun_nodes me shows_then _ then_no_call) q.rules;
    opens = by_node (λ v x. Each (OpenAt c start_tape v) x.open_operations) now.node me fresh tt
        (λ v apart. each_on (OpenAt c now.tape v) (OpenAt c start_tape v) (open_on c now.tape start_tape v start_later (λ x at group was.
        items_polled c begun_nodes (flat_map (shown me) (Starts count ∷ shows_then)) now.tape x group (notes_silent me (Starts count ∷ shows_then)) ∙ was)) (now.node v).open_operations (q.opens v));
    idle = by_node (λ v x. is_full c v ≡ false → IsIdle c x.met) now.node me fresh (λ none. idle_same (fresh_uncalled)) (λ v apart. q.idle v);
    beats = by_node (λ v x. is_full c v ≡ true → is_up x.met ≡ true → Beats c x.met) now.node me fresh (λ full still e is group. absurd (let some = sym is ∙ fresh_none in cc)) (λ v apart. q.beats v);
    told = λ group. starts_told (λ t v. beaten_on t v group) (next_beaten group) (tells_beaten group) (λ met. beaten_met met group) (beaten_each group) c now.tape now.node (q.told group) begun_nodes me fresh (start_items begun count (now.owed me) was) refl;
  }
    where
      idle_same : Uncalled c fresh.met (Starts count ∷ was) → IsIdle c fresh.met
      idle_same u = uncalled_idle c fresh.met (Starts count ∷ was) u refl

module _ (c : Cluster) (now : Standing) (me : ℕ) (q : Validating c now.tape now.node now.owed) where
  abbrev gone : Node
  gone = crashed (now.node me)

  falls_validating : Validating c (Crash (number me) ∷ now.tape) (set_at now.node me gone) now.owed
  falls_validating = record {
    rules = (tt, q.rules);
    opens = by_node (λ v x. Each (OpenAt c (Crash (number me) ∷ now.tape) v) x.open_operations) now.node me gone tt
        (λ v apart. each_on (OpenAt c now.tape v) (OpenAt c (Crash (number me) ∷ now.tape) v) (open_on c now.tape (Crash (number me) ∷ now.tape) v (one_later now.tape now.tape (Crash (number me)) (now_is now.tape)) (λ x at group was. was)) (now.node v).open_operations (q.opens v));
    idle = by_node (λ v x. is_full c v ≡ false → IsIdle c x.met) now.node me gone (λ none. q.idle me none) (λ v apart. q.idle v);
    beats = by_node (λ v x. is_full c v ≡ true → is_up x.met ≡ true → Beats c x.met) now.node me gone (λ full still. cc) (λ v apart. q.beats v);
    told = λ group. falls_told (λ t v. beaten_on t v group) (next_beaten group) (tells_beaten group) (λ met. beaten_met met group) (beaten_each group) c now.tape now.node (q.told group) me gone refl;
  }

marks_validating : (c : Cluster) (tape : List Item) (nodes : ℕ → Node) (owed : ℕ → List Met) (item : Item) → IsMark item → Validating c tape nodes owed → Validating c (item ∷ tape) nodes owed
marks_validating c tape nodes owed item is q = record {
  rules = (mark_free item is, q.rules);
  opens = λ v. each_on (OpenAt c tape v) (OpenAt c (item ∷ tape) v) (open_on c tape (item ∷ tape) v (one_later tape tape item (now_is tape)) (λ x at group was. silent_polled tape item x group (mark_silent item is) ∙ was)) (nodes v).open_operations (q.opens v);
  idle = q.idle;
  beats = q.beats;
  told = λ group. marks_told (λ t v. beaten_on t v group) (next_beaten group) (tells_beaten group) (λ met. beaten_met met group) (beaten_each group) c tape nodes (q.told group) item is;
}
  where
    mark_free : (x : Item) → IsMark x → IsByPoll c tape x
    mark_free (Valid who group p) k = absurd k
    mark_free _ k = tt

validating_holds : (c : Cluster) → Holds c (Ruled c) (Validating c)
validating_holds c = record {
  steps = λ h now me item event g p up o plain q. steps_validating c h now me up g p q item event o;
  cuts = λ h now me item event kept g p up o q. cuts_validating c h now me up g p q item event o _;
  starts = λ h now me count g p less q. starts_validating c h now me count p q _;
  falls = λ now me g p q. falls_validating c now me q;
  marks = λ now item is g p q. marks_validating c now.tape now.node now.owed item is q;
}

nothing_validating : (c : Cluster) → Validating c [] (λ me. nothing_yet.node me) (λ me. [])
nothing_validating c = record { rules = tt; opens = λ v. tt; idle = λ v none. refl; beats = λ v full up. cc; told = λ g v. refl }

-- what all these rest on is kept
pub ruled_keeps : (c : Cluster) → length c.nodes ≤ 9 → Keeps c (Ruled c)
ruled_keeps c few = both_keep c (Before c) (both_keep c (ShownAt c) (shown_keeps c) (Celling c) (celling_holds c (ShownAt c) few)) (Epoching c) (epoching_holds c few)

pub nothing_ruled : (c : Cluster) → Ruled c nothing_yet
nothing_ruled c = ((nothing_shown c, nothing_celling c), nothing_epoching c)

pub run_validated : (c : Cluster) (first : Meanings) (events : List Happening) (tape : List Item) → length c.nodes ≤ 9 → IsRun c first events tape → Are IsServing tape → Are (IsValidated c) tape
run_validated c first events tape few run rules = to_validated c tape rules (subst (Are (IsByPoll c)) (sym run.tape_is) (run_holds c (Ruled c) (ruled_keeps c few) (Validating c) (validating_holds c) first events tape run (nothing_ruled c) (nothing_validating c)).rules)
