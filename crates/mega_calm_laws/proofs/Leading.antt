-- The leader behind the log of a run is a voter: only full nodes have operations open that propose, and each entry names the node of such an operation.
use Rattle.std.proofs.Common.{◌≡◌, inl, inr, ℕ, zero, suc, ◌+◌, ◌-◌, ◌==◌, ◌&&◌, ◌≤◌, ◌<◌, nat_le, nat_lt, Bool, true, false, not, cond, List, [], ◌∷◌, ◌++◌, flat_map, fold, length, map, slice_get, Option, Some, None, refl, sym, ap, ◌∙◌, subst, arith}
use Rattle.std.specs.List.{cons_option}
use Rattle.std.proofs.lemmas.Bool.Decides.{nat_tests}
use Rattle.std.proofs.lemmas.Bool.{and_parts, not-false}
use Rattle.std.proofs.lemmas.Option.{same_Some}
use Rattle.mega_base.specs.declared.names.GroupId.{GroupId}
use Rattle.mega_base.specs.declared.names.NodeId.{NodeId}
use Rattle.mega_base.specs.declared.names.OpId.{OpId}
use Rattle.mega_base.specs.declared.names.Position.{Position}
use Rattle.mega_base.specs.declared.names.Epoch.{Epoch}
use Rattle.mega_base.specs.declared.values.NodeKind.{NodeKind}
use Rattle.mega_base.specs.declared.values.NodeKind.TheVariants.{Full, Witness, Read as ReadOnly}
use Rattle.mega_ballot.specs.declared.ballot.Ballot.{Ballot}
use Rattle.mega_cluster.specs.declared.cluster.Cluster.{Cluster}
use Rattle.mega_entry.specs.declared.content.Content.{Content}
use Rattle.mega_entry.specs.declared.content.Name.{Name}
use Rattle.mega_handler.specs.Effects.{Effect, entry_handling, handle_entry}
use Rattle.mega_handler.specs.Named.{Meanings}
use Rattle.mega_wire.specs.declared.message.Message.{Message}
use Rattle.mega_wire.specs.declared.message.Body.{Body}
use Rattle.mega_wire.specs.declared.message.Body.TheVariants.{Accept, Prepare, Fetch, Where, Top, Accepted, Refused, Promise, Invalidate, Invalidated, Dead, Held, Unheld, Decide as Tell, Have, HaveNot, Acquire, Granted, Past, Request as Ask, Reply}
use Rattle.mega_wal.specs.Acceptor.{Act, Voted, accept_answer, promise_answer}
use Rattle.mega_wal.specs.declared.answers.Promised.{Promised as PromiseAnswer}
use Rattle.mega_wal.specs.declared.answers.Promised.TheVariants as promise
use Rattle.mega_wal.specs.declared.answers.Voted.{Voted as AcceptAnswer}
use Rattle.mega_wal.specs.declared.answers.Voted.TheVariants as vote
use Rattle.mega_outcome.specs.declared.answer.Answer.{Answer}
use Rattle.mega_outcome.specs.declared.answer.Answer.TheVariants.{Worn}
use Rattle.mega_outcome.specs.declared.request.Mode.{Mode}
use Rattle.mega_outcome.specs.declared.request.Mode.TheVariants.{Current, Snapshot, Inconsistent}
use Rattle.mega_outcome.specs.declared.request.FindRequest.{FindRequest}
use Rattle.mega_outcome.specs.declared.request.ReadRequest.{ReadRequest}
use Rattle.mega_outcome.specs.declared.request.Request.{Request}
use Rattle.mega_outcome.specs.declared.request.Request.TheVariants.{Txn, Batch, Read, Find, PumpEnter, PumpHandle, Refresh}
use Rattle.mega_locks.specs.declared.asked.Asked.{Asked}
use Rattle.mega_locks.specs.declared.asked.Asked.TheVariants as locks
use Rattle.mega_leased_laws.specs.of_run_laws.of_tape_laws.of_promises.of_rules.of_read.of_propose.Members.{others}
use Rattle.mega_leased_laws.specs.of_run_laws.of_tape_laws.of_promises.of_transcript.declared.item.Item.{Item}
use Rattle.mega_leased_laws.specs.of_run_laws.of_tape_laws.of_promises.of_transcript.declared.item.Item.TheVariants.{Begin as BeginItem, Crash, Cut as CutItem, Decide, Dropped, Sent, Taken, Tick as TickItem, Unsafe}
use Rattle.mega_leased_laws.specs.of_run_laws.of_tape_laws.of_promises.of_transcript.Tape.{is_sent, is_taken, sent_count}
use Rattle.mega_leased_laws.specs.of_run_laws.of_tape_laws.of_promises.of_rules.Acting.{ends, named_leader, rests_within}
use Rattle.mega_leased_laws.specs.of_run_laws.of_tape_laws.of_promises.of_rules.Clock.{clock_of, does_again, is_up, ticks_of}
use Rattle.mega_leased_laws.specs.of_run_laws.of_tape_laws.of_promises.of_rules.Coordinators.{acquires_at}
use Rattle.mega_leased_laws.specs.of_run_laws.of_tape_laws.of_promises.of_rules.Locks.{asked_for, held_answer, held_at, lock_answer}
use Rattle.mega_leased_laws.specs.of_run_laws.of_tape_laws.of_promises.of_rules.Logs.{decided, groups_of, newest_of, prefix_of, top_of}
use Rattle.mega_leased_laws.specs.of_run_laws.of_tape_laws.of_promises.of_rules.Members.{has_rows, is_cell, is_full, is_node, is_voter, kind_of, nodes, runs, voters}
use Rattle.mega_leased_laws.specs.of_run_laws.of_tape_laws.of_promises.of_rules.Met.{Met, Begins, Crashes, Ticks}
use Rattle.mega_leased_laws.specs.of_run_laws.of_tape_laws.of_promises.of_rules.Operations.{Node, Now, Operation, Setting}
use Rattle.mega_leased_laws.specs.of_run_laws.of_tape_laws.of_promises.of_rules.Replies.{answer_to, fetched, reply_message, reply_to, where_served}
use Rattle.mega_leased_laws.specs.of_run_laws.of_tape_laws.of_promises.of_rules.Steps.{Begin, Decision, Event, Heard, Step, Take, Tick, at_first, at_open, background, begin_step, begins, crashed, fetch_to, fetches_for, find_begins, hears_message, if_new, is_current, is_worn, lapse_notes, lease_notes, local_find_begins, missing_kind, needs_full, new_operation, onto, op_of, portion_of, read_begins, refusal as begin_refusal, start, start_items, step, take_step, taken, tick_step, ticked, told_decision, told_notes, unless_missing, unless_refused}
use Rattle.mega_leased_laws.specs.of_run_laws.of_tape_laws.of_promises.of_rules.Voting.{acts, promise_body, vote_body}
use Rattle.mega_leased_laws.specs.of_run_laws.of_tape_laws.of_promises.Items.{number, numbered, shown}
use Rattle.mega_leased_laws.specs.of_run_laws.of_tape_laws.of_promises.Messages.{is_deliverable, is_dropped, is_unsafe, message_of, next_delivery, receiver_up}
use Rattle.mega_leased_laws.specs.of_run_laws.of_tape_laws.of_promises.Promises.{Stands, log_of}
use Rattle.mega_leased_laws.specs.of_run_laws.of_tape_laws.of_promises.Runs.{CutByData, CutByLog, Cuts, Fate, Fuse, Happening, Standing, Whole, after_event, breaks, calls_of, delivered, drained, fate_by, fated, fated_start, goes_on, handed, marked, met_in, new_fuse, nothing_yet, opening, receiver_down, refusal, replies_in, set_at, setting, start_calls, unless_none, unless_refused as unless_refused_event, up, whole_step, with_item, with_items}
use Rattle.mega_leased_laws.specs.of_run_laws.Usages.{Brought, Fits as FitsUsage}
use Rattle.mega_leased_laws.specs.of_run_laws.Justified.{Each, sent}
use Rattle.mega_leased_laws.proofs.of_run_laws.Runs.{begin_good, crashes_good, fated_start_good, found, handed_good, marked_good, not_because, nothing_good, run_written, tick_good}
use Rattle.mega_leased_laws.proofs.of_run_laws.Standing.{Good}
use Rattle.mega_leased_laws.proofs.of_run_laws.Steps.{begun_next, stands_sent}
use Rattle.mega_leased_laws.proofs.of_run_laws.Ticking.{ticked_next}
use Rattle.mega_leased_laws.proofs.of_run_laws.Whole.{take_next, take_by}
use Rattle.mega_leased_laws.specs.of_run_laws.of_tape_laws.Lawful.{message}
use Rattle.mega_leased_laws.specs.of_run_laws.of_tape_laws.Places.{In, Place, Proposes, move_in, moves}
use Rattle.mega_disk.specs.declared.pair.Device.TheVariants.{Log, Data}
use Rattle.mega_member_laws.proofs.Histories.{ActsHere, acts_here}
use Rattle.mega_leased_laws.specs.of_run_laws.of_tape_laws.of_promises.of_schedule.declared.world_event.WorldEvent.{WorldEvent}
use Rattle.mega_leased_laws.specs.of_run_laws.of_tape_laws.of_promises.of_schedule.declared.world_event.WorldEvent.TheVariants.{Tick as TickEvent, Deliver, Drop, Drain, Crash as CrashEvent, Start as StartEvent, Fuse as FuseEvent, Begin as BeginEvent}
use Rattle.mega_schema.specs.declared.schema.Schema.{Schema}
use Rattle.mega_leased_laws.proofs.of_run_laws.Noted.{tape_item, with_append, with_sent}
use Rattle.mega_leased_laws.specs.of_run_laws.of_tape_laws.Chosen.{Chosen}
use Rattle.mega_leased_laws.specs.of_run_laws.of_tape_laws.Writes.{OwnEntry, Usage, enters, fills, handles, runs as runs_one, runs_all}
use Rattle.mega_leased_laws.proofs.of_run_laws.of_tape_laws.Agreement.{decided_chosen}
use Rattle.mega_leased_laws.proofs.of_run_laws.of_tape_laws.Made.{vote_proposed}
use Rattle.mega_leased_laws.proofs.of_run_laws.of_tape_laws.Logs.{first_stands}
use Rattle.mega_leased_laws.proofs.of_run_laws.of_tape_laws.Origins.{Origin, origin}
use Rattle.mega_calm_laws.specs.Ready.{HasLeader, leader_behind}
use Rattle.mega_calm_laws.proofs.Beginning.{full_votes}
use Rattle.mega_leased_laws.proofs.of_run_laws.Shown.{IsPlain, notes_plain}
use Rattle.mega_leased_laws.proofs.of_run_laws.Events.{each_append as each_both}
use Rattle.mega_calm_laws.proofs.Mail.{Among, number_is}
use Rattle.mega_calm_laws.proofs.Polls.{among_voters, voter_of}
use Rattle.mega_calm_laws.proofs.Standings.{anybody, run_good}
use Rattle.mega_calm_laws.proofs.Stocking.{majority_voter, place}
use Rattle.mega_calm_laws.proofs.Within.{run_in}
use Rattle.mega_calm_laws.proofs.Readying.{log_has}

-- ---- messages that propose nothing

abbrev pub IsMoveless : Body → Type 0
IsMoveless (Accept op g n b e) = ⊥
IsMoveless (Prepare op g n b) = ⊥
IsMoveless _ = Unit {0}

abbrev pub AreMoveless : List Message → Type 0
AreMoveless ms = Each (λ (m : Message). IsMoveless m.body) ms

no_move : (x : OpId) (q : Place) (body : Body) → IsMoveless body → move_in x q body ≡ None
no_move x q (Accept op g n b e) h = absurd h
no_move x q (Prepare op g n b) h = absurd h
no_move x q _ h = refl

-- an item that is no proposal
abbrev pub IsSilent : Item → Type 0
IsSilent (Sent k m) = IsMoveless m.body
IsSilent _ = Unit {0}

silent_moves : (item : Item) (tape : List Item) (x : OpId) (q : Place) → IsSilent item → moves (item ∷ tape) x q ≡ moves tape x q
silent_moves (Sent k m) tape x q h = ap (λ o. cons_option o (moves tape x q)) (no_move x q m.body h)
silent_moves _ tape x q h = refl

moves_with : (c : Cluster) (nodes : ℕ → Node) (item : Item) (tape : List Item) (x : OpId) (q : Place) → IsSilent item → moves (with_item c nodes tape item) x q ≡ moves tape x q
moves_with c nodes item tape x q h = by (breaks c nodes item && not (is_unsafe tape))
  where
    by : (t : Bool) → moves (cond t (Unsafe ∷ item ∷ tape) (item ∷ tape)) x q ≡ moves tape x q
    by true = silent_moves item tape x q h
    by false = silent_moves item tape x q h

moves_items : (c : Cluster) (nodes : ℕ → Node) (items tape : List Item) (x : OpId) (q : Place) → Each IsSilent items → moves (with_items c nodes tape items) x q ≡ moves tape x q
moves_items c nodes [] tape x q h = refl
moves_items c nodes (item ∷ items) tape x q h = moves_items c nodes items (with_item c nodes tape item) x q h.1 ∙ moves_with c nodes item tape x q h.0

plain_silent : (item : Item) → IsPlain item → IsSilent item
plain_silent (Sent k m) h = absurd h
plain_silent _ h = tt

plains_silent : (items : List Item) → Each IsPlain items → Each IsSilent items
plains_silent [] h = tt
plains_silent (item ∷ items) h = (plain_silent item h.0, plains_silent items h.1)

numbered_silent : (k : ℕ) (ms : List Message) → AreMoveless ms → Each IsSilent (numbered k ms)
numbered_silent k [] h = tt
numbered_silent k (m ∷ ms) h = (h.0, numbered_silent (k + 1) ms h.1)

-- ---- a reply proposes nothing

served_moveless : (me to : ℕ) (t : Bool) (body : Body) → IsMoveless body → AreMoveless (reply_message me to (where_served t body))
served_moveless me to true body h = (h, tt)
served_moveless me to false body h = tt

voted_moveless : (me to : ℕ) (t : Bool) (op : OpId) (g : GroupId) (n : Position) (b : Ballot) (e : Content) (a : AcceptAnswer) → AreMoveless (reply_message me to (where_served t (vote_body op g n b e a)))
voted_moveless me to t op g n b e vote.Yes = served_moveless me to t (vote_body op g n b e vote.Yes) tt
voted_moveless me to t op g n b e (vote.Shown greater) = served_moveless me to t (vote_body op g n b e (vote.Shown greater)) tt
voted_moveless me to t op g n b e (vote.Other other) = served_moveless me to t (vote_body op g n b e (vote.Other other)) tt

promised_moveless : (me to : ℕ) (t : Bool) (op : OpId) (g : GroupId) (n : Position) (b : Ballot) (a : PromiseAnswer) → AreMoveless (reply_message me to (where_served t (promise_body op g n b a)))
promised_moveless me to t op g n b (promise.Yes report) = served_moveless me to t (promise_body op g n b (promise.Yes report)) tt
promised_moveless me to t op g n b (promise.Shown greater) = served_moveless me to t (promise_body op g n b (promise.Shown greater)) tt

fetched_moveless : (me to : ℕ) (t : Bool) (op : OpId) (g : GroupId) (n : Position) (o : Option Content) → AreMoveless (reply_message me to (where_served t (fetched op g n o)))
fetched_moveless me to t op g n None = served_moveless me to t (fetched op g n None) tt
fetched_moveless me to t op g n (Some e) = served_moveless me to t (fetched op g n (Some e)) tt

held_moveless : (me to : ℕ) (t : Bool) (op : OpId) (cell : ℕ) (node : NodeId) (o : Option Epoch) → AreMoveless (reply_message me to (where_served t (held_answer op cell node o)))
held_moveless me to t op cell node None = served_moveless me to t (held_answer op cell node None) tt
held_moveless me to t op cell node (Some e) = served_moveless me to t (held_answer op cell node (Some e)) tt

locked_moveless : (me to : ℕ) (t : Bool) (cell : ℕ) (epoch : Epoch) (clock : ℕ) (a : Asked) → AreMoveless (reply_message me to (where_served t (lock_answer cell epoch clock a)))
locked_moveless me to t cell epoch clock locks.Granted = served_moveless me to t (lock_answer cell epoch clock locks.Granted) tt
locked_moveless me to t cell epoch clock locks.Renewed = served_moveless me to t (lock_answer cell epoch clock locks.Renewed) tt
locked_moveless me to t cell epoch clock (locks.GreaterHeld greatest) = served_moveless me to t (lock_answer cell epoch clock (locks.GreaterHeld greatest)) tt
locked_moveless me to t cell epoch clock (locks.Over greatest) = served_moveless me to t (lock_answer cell epoch clock (locks.Over greatest)) tt

replies_moveless : (c : Cluster) (me from : ℕ) (met : List Met) (body : Body) → AreMoveless (reply_message me from (answer_to c me met from body))
replies_moveless c me from met (Where op g) = served_moveless me from (is_voter c me) (Top op g (record { 0 = top_of met g })) tt
replies_moveless c me from met (Accept op g n b e) = voted_moveless me from (is_voter c me) op g n b e (accept_answer (acts met g n.0) b e)
replies_moveless c me from met (Prepare op g n b) = promised_moveless me from (is_voter c me) op g n b (promise_answer (acts met g n.0) b)
replies_moveless c me from met (Fetch op g n) = fetched_moveless me from (is_voter c me) op g n (decided met g n.0)
replies_moveless c me from met (Invalidate op g n) = served_moveless me from (is_full c me) (Invalidated op g n) tt
replies_moveless c me from met (Dead op cell node) = held_moveless me from (cell == me && is_cell c me) op cell node (held_at c me met node.0)
replies_moveless c me from met (Acquire cell epoch clock) = locked_moveless me from (cell == me && is_cell c me) cell epoch clock (asked_for c me met from epoch)
replies_moveless c me from met (Top op g n) = tt
replies_moveless c me from met (Accepted op g n b e) = tt
replies_moveless c me from met (Refused op g n asked shown e) = tt
replies_moveless c me from met (Promise op g n b report) = tt
replies_moveless c me from met (Invalidated op g n) = tt
replies_moveless c me from met (Held op cell node) = tt
replies_moveless c me from met (Unheld op cell node) = tt
replies_moveless c me from met (Tell g n e) = tt
replies_moveless c me from met (Have op g n e) = tt
replies_moveless c me from met (HaveNot op g n) = tt
replies_moveless c me from met (Granted cell epoch clock) = tt
replies_moveless c me from met (Past cell epoch greatest) = tt
replies_moveless c me from met (Ask token json) = tt
replies_moveless c me from met (Reply token text) = tt

-- ---- a step of a node with no open operation

pub record IsQuiet (made : Step) : Type 0 where
  pub none_open : (made.node).open_operations ≡ []
  pub sends : AreMoveless made.sends

both_moveless : (xs ys : List Message) → AreMoveless xs → AreMoveless ys → AreMoveless (xs ++ ys)
both_moveless xs ys h k = each_both (λ (m : Message). IsMoveless m.body) xs ys h k

module _ (s : Setting) (node : Node) (none : node.open_operations ≡ []) (other : is_full s.cluster s.me ≡ false) where
  asked_moveless : (g : GroupId) (vs : List ℕ) → AreMoveless (map (fetch_to s node.met g) vs)
  asked_moveless g [] = tt
  asked_moveless g (v ∷ vs) = (tt, asked_moveless g vs)

  fetches_moveless : (gs : List GroupId) → AreMoveless (flat_map (fetches_for s node.met) gs)
  fetches_moveless [] = tt
  fetches_moveless (g ∷ gs) = both_moveless (fetches_for s node.met g) (flat_map (fetches_for s node.met) gs) (by (nat_lt (prefix_of node.met g) (newest_of node.met g))) (fetches_moveless gs)
    where
      by : (t : Bool) → AreMoveless (cond t (map (fetch_to s node.met g) (others s.me (voters s.cluster))) [])
      by true = asked_moveless g (others s.me (voters s.cluster))
      by false = tt

  background_moveless : (clock : ℕ) → AreMoveless (background s node.met clock)
  background_moveless clock = by (has_rows s.cluster s.me && does_again s.cluster.retry (ticks_of node.met) clock)
    where
      by : (t : Bool) → AreMoveless (cond t (flat_map (fetches_for s node.met) (groups_of node.met)) [])
      by true = fetches_moveless (groups_of node.met)
      by false = tt

  cond_none : {X : Type 0} (a b : Bool) (xs : List X) → a ≡ false → cond (a && b) xs [] ≡ []
  cond_none true b xs h = cc
  cond_none false b xs h = refl

  none_acquired : (clock : ℕ) → acquires_at s.cluster s.me node.met clock ≡ []
  none_acquired clock = cond_none (is_full s.cluster s.me) (does_again s.cluster.retry (ticks_of node.met) clock) _ other

  abbrev first_at : ℕ → Now
  first_at clock = at_first (onto (lapse_notes s node.met clock) (onto (lease_notes s node.met clock) (Ticks clock ∷ node.met))) (portion_of s node.met node.stored)

  tick_quiet : (clock : ℕ) → IsQuiet (tick_step s node clock)
  tick_quiet clock = record {
    none_open = ap (λ os. (fold (ticked s clock) (first_at clock) os).kept) none;
    sends = subst (λ os. AreMoveless ((acquires_at s.cluster s.me node.met clock ++ (fold (ticked s clock) (first_at clock) os).sends) ++ background s node.met clock)) (sym none)
        (subst (λ ms. AreMoveless ((ms ++ []) ++ background s node.met clock)) (sym (none_acquired clock)) (background_moveless clock));
  }

  taken_quiet : (m : Message) (d : Option Decision) → IsQuiet (taken s node m (told_notes s node.met m.from m.body) [] d (reply_to s.cluster s.me node.met m) [])
  taken_quiet m d = record {
    none_open = refl;
    sends = both_moveless (reply_to s.cluster s.me node.met m ++ []) [] (both_moveless (reply_to s.cluster s.me node.met m) [] (replies_moveless s.cluster s.me m.from node.met m.body) tt) tt;
  }

  take_quiet : (m : Message) → IsQuiet (take_step s node m)
  take_quiet m = by (told_decision m.body) (map (hears_message s (clock_of node.met) m) node.open_operations) (ap (map (hears_message s (clock_of node.met) m)) none)
    where
      by : (o : Option Decision) (ts : List Heard) → ts ≡ [] → IsQuiet (take_by s node m ts o)
      by (Some d) ts is = subst (λ those. IsQuiet (take_by s node m those (Some d))) (sym is) (taken_quiet m (if_new node.met (Some d)))
      by None ts is = subst (λ those. IsQuiet (take_by s node m those None)) (sym is) (taken_quiet m None)

  -- ---- a request that begins

  record IsBare (now : Now) : Type 0 where
    kept : now.kept ≡ []
    sends : now.sends ≡ []

  module _ (request : Request) (text : List ℕ) where
    abbrev begin : Now
    begin = at_open (at_first (Begins (op_of s node.met) text ∷ node.met) node.stored) node.open_operations

    abbrev own : Operation
    own = new_operation (op_of s node.met) request (clock_of node.met)

    ends_bare : (answer : Answer) → IsBare (ends begin (op_of s node.met) answer)
    ends_bare answer = record { kept = none; sends = refl }

    abbrev most : ℕ
    most = length (groups_of begin.met) + 2

    read_bare : (r : ReadRequest) (mode : Mode) → is_current mode ≡ false → IsBare (rests_within most s (read_begins s begin own r mode))
    read_bare r Current h = cc
    read_bare r Snapshot h = ends_bare _
    read_bare r Inconsistent h = ends_bare _

    find_bare_in : (r : FindRequest) (group : GroupId) (mode : Mode) → is_current mode ≡ false → IsBare (rests_within most s (local_find_begins s begin own r group mode))
    find_bare_in r group Current h = cc
    find_bare_in r group Snapshot h = ends_bare _
    find_bare_in r group Inconsistent h = ends_bare _

    find_bare : (r : FindRequest) (o : Option GroupId) → is_current r.mode ≡ false → IsBare (rests_within most s (find_begins s begin own r o))
    find_bare r None h = ends_bare _
    find_bare r (Some group) h = find_bare_in r group r.mode h

  begins_bare : (request : Request) (text : List ℕ) → needs_full request ≡ false → IsBare (begins s (begin request text) (own request text))
  begins_bare (Txn transaction) text h = cc
  begins_bare (Batch group transactions) text h = cc
  begins_bare (Read r) text h = read_bare (Read r) text r r.mode h
  begins_bare (Find r) text h = find_bare (Find r) text r r.group h
  begins_bare PumpEnter text h = cc
  begins_bare PumpHandle text h = cc
  begins_bare Refresh text h = ends_bare Refresh text _

  -- a node that is not full
  refused_bare : (request : Request) (text : List ℕ) (o : Option Answer) → (o ≡ None → needs_full request ≡ false) → IsBare (unless_refused s (begin request text) (own request text) o)
  refused_bare request text (Some answer) h = ends_bare request text answer
  refused_bare request text None h = begins_bare request text (h refl)

  module _ (kind : NodeKind) (kind_is : kind_of s.cluster s.me ≡ Some kind) (partial : runs (Some kind) ≡ false) where
    unneeded : (request : Request) → begin_refusal s node request ≡ None → needs_full request ≡ false
    unneeded request is = by kind partial (is_worn node.met) (needs_full request) refl (ap (λ k. cond (is_worn node.met) (Some Worn) (unless_missing node.open_operations (missing_kind request k))) (sym kind_is) ∙ is)
      where
        by : (k : NodeKind) → runs (Some k) ≡ false → (worn needs : Bool) → needs_full request ≡ needs → cond worn (Some Worn) (unless_missing node.open_operations (missing_kind request (Some k))) ≡ None → needs_full request ≡ false
        by Full p worn needs e r = cc
        by Witness p true needs e r = cc
        by Witness p false needs e r = cc
        by ReadOnly p true needs e r = cc
        by ReadOnly p false true e r = absurd (let never = sym (ap (λ t. unless_missing node.open_operations (cond t (Some ReadOnly) None)) e) ∙ r in cc)
        by ReadOnly p false false e r = e

    begin_quiet : (request : Request) (text : List ℕ) → IsQuiet (begin_step s node request text)
    begin_quiet request text = record { none_open = bare.kept; sends = subst AreMoveless (sym bare.sends) tt }
      where
        bare : IsBare (unless_refused s (begin request text) (own request text) (begin_refusal s node request))
        bare = refused_bare request text (begin_refusal s node request) (unneeded request)

    pub step_quiet : (event : Event) → IsQuiet (step s node event)
    step_quiet (Tick clock) = tick_quiet clock
    step_quiet (Take m) = take_quiet m
    step_quiet (Begin request text) = begin_quiet request text

-- the kind of a node of the cluster
slice_some : {X : Type 0} (xs : List X) (k : ℕ) → k < length xs → (x : X) × (slice_get xs k ≡ Some x)
slice_some [] k less = absurd (omega (arith, less))
slice_some (x ∷ xs) zero less = (x, refl)
slice_some (x ∷ xs) (suc k) less = slice_some xs k (omega (arith, less))

kind_there : (c : Cluster) (me : ℕ) → is_node c me ≡ true → (k : NodeKind) × (kind_of c me ≡ Some k)
kind_there c me h = let r = and_parts (nat_le 1 me) (nat_le me (length c.nodes)) h in slice_some c.nodes (me - 1) (within me (length c.nodes) r.0 r.1)
  where
    within : (a b : ℕ) → nat_le 1 a ≡ true → nat_le a b ≡ true → a - 1 < b
    within a b low high = grind (arith, nat_tests)

partial_kind : (c : Cluster) (me : ℕ) (k : NodeKind) → is_node c me ≡ true → is_full c me ≡ false → kind_of c me ≡ Some k → runs (Some k) ≡ false
partial_kind c me k node full is = sym (ap runs is) ∙ (sym (ap (λ t. t && runs (kind_of c me)) node) ∙ full)

-- ---- runs

record Roled (c : Cluster) (tape : List Item) (nodes : ℕ → Node) : Type 0 where
  none_open : (v : ℕ) → is_node c v ≡ true → is_full c v ≡ false → (nodes v).open_operations ≡ []
  unmoved : (x : OpId) → is_node c x.node.0 ≡ true → is_full c x.node.0 ≡ false → (q : Place) → moves tape x q ≡ []

module _ (c : Cluster) where
  set_none : (nodes : ℕ → Node) (me : ℕ) (node : Node) → ((v : ℕ) → is_node c v ≡ true → is_full c v ≡ false → (nodes v).open_operations ≡ []) → (is_node c me ≡ true → is_full c me ≡ false → node.open_operations ≡ [])
      → (v : ℕ) → is_node c v ≡ true → is_full c v ≡ false → (set_at nodes me node v).open_operations ≡ []
  set_none nodes me node all new v there other = by (me == v) refl
    where
      by : (t : Bool) → (me == v) ≡ t → (cond t node (nodes v)).open_operations ≡ []
      by true e = new (ap (is_node c) (number_is me v e) ∙ there) (ap (is_full c) (number_is me v e) ∙ other)
      by false e = all v there other

  none_brought : (h : Meanings) → ⊥ → Brought (anybody.usage) h
  none_brought h f = absurd f

  -- what the event's own item is
  abbrev Own : Standing → Meanings → ℕ → Item → Event → Type 0
  Own now h me item (Tick clock) = item ≡ TickItem (number me) clock
  Own now h me item (Take m) = (j : ℕ) × (item ≡ Taken j) × Stands (Sent j m) now.tape × (m.to ≡ me)
  Own now h me item (Begin request text) = item ≡ BeginItem (op_of (setting c h me) (now.node me).met) text

  own_silent : (now : Standing) (h : Meanings) (me : ℕ) (item : Item) (event : Event) → Own now h me item event → IsSilent item
  own_silent now h me item (Tick clock) is = subst IsSilent (sym is) tt
  own_silent now h me item (Take m) is = subst IsSilent (sym is.1) tt
  own_silent now h me item (Begin request text) is = subst IsSilent (sym is) tt

  abbrev made_at : Standing → Meanings → ℕ → Event → Step
  made_at now h me event = step (setting c h me) (now.node me) event

  abbrev tape_at : Standing → Meanings → ℕ → Item → Event → List Item
  tape_at now h me item event = (whole_step c now me (item ∷ []) (made_at now h me event)).tape

  -- what another node sends moves only its own operations
  stays_apart : (now : Standing) (h : Meanings) (me : ℕ) (item : Item) (event : Event) → Good anybody c now → is_up (now.node me).met ≡ true → Own now h me item event → ((n : ℕ → Node) → with_item c n now.tape item ≡ item ∷ now.tape)
      → (x : OpId) → (me == x.node.0) ≡ false → (q : Place) → moves (tape_at now h me item event) x q ≡ moves now.tape x q
  stays_apart now h me item event g up own_is plain x apart q = ap (λ t. moves t x q) whole ∙ next event own_is
    where
      nodes' : ℕ → Node
      nodes' = set_at now.node me (made_at now h me event).node

      count : ℕ
      count = sent_count now.tape + 1

      whole : tape_at now h me item event ≡ sent count (made_at now h me event).sends (with_items c nodes' (item ∷ now.tape) (flat_map (shown me) (made_at now h me event).notes))
      whole = with_append c nodes' ((item ∷ []) ++ flat_map (shown me) (made_at now h me event).notes) (numbered count (made_at now h me event).sends) now.tape
          ∙ (with_sent c nodes' count (made_at now h me event).sends (with_items c nodes' now.tape ((item ∷ []) ++ flat_map (shown me) (made_at now h me event).notes))
          ∙ ap (λ t. sent count (made_at now h me event).sends (with_items c nodes' t (flat_map (shown me) (made_at now h me event).notes))) (plain nodes'))

      Stays : Item → Event → Type 0
      Stays one e = moves (sent count (made_at now h me e).sends (with_items c (set_at now.node me (made_at now h me e).node) (one ∷ now.tape) (flat_map (shown me) (made_at now h me e).notes))) x q ≡ moves now.tape x q

      next : (e : Event) → Own now h me item e → Stays item e
      next (Tick clock) is = subst (λ one. Stays one (Tick clock)) (sym is) ((ticked_next anybody (setting c h me) (none_brought h) now (set_at now.node me (made_at now h me (Tick clock)).node) clock g up).0.moved x apart q)
      next (Take m) is = subst (λ one. Stays one (Take m)) (sym is.1)
          ((take_next anybody (setting c h me) (none_brought h) now (set_at now.node me (made_at now h me (Take m)).node) is.0 m g up (subst (λ to. Stands (Sent is.0 (message m.from to m.body)) now.tape) is.3 is.2)).0.moved x apart q)
      next (Begin request text) is = subst (λ one. Stays one (Begin request text)) (sym is)
          ((begun_next anybody (setting c h me) (none_brought h) now (set_at now.node me (made_at now h me (Begin request text)).node) request text (λ f. absurd f) g up).0.moved x apart q)

  whole_roled : (now : Standing) (h : Meanings) (me : ℕ) (item : Item) (event : Event) → Good anybody c now → Roled c now.tape now.node → is_up (now.node me).met ≡ true → Own now h me item event
      → ((n : ℕ → Node) → with_item c n now.tape item ≡ item ∷ now.tape) → Roled c (tape_at now h me item event) (set_at now.node me (made_at now h me event).node)
  whole_roled now h me item event g r up own_is plain = record {
    none_open = set_none now.node me (made_at now h me event).node r.none_open (λ there other. (quiet there other).none_open);
    unmoved = λ x there other q. by x there other q (me == x.node.0) refl;
  }
    where
      quiet : is_node c me ≡ true → is_full c me ≡ false → IsQuiet (made_at now h me event)
      quiet there other = let k = kind_there c me there in step_quiet (setting c h me) (now.node me) (r.none_open me there other) other k.0 k.1 (partial_kind c me k.0 there other k.1) event

      by : (x : OpId) → is_node c x.node.0 ≡ true → is_full c x.node.0 ≡ false → (q : Place) → (t : Bool) → (me == x.node.0) ≡ t → moves (tape_at now h me item event) x q ≡ []
      by x there other q false apart = stays_apart now h me item event g up own_is plain x apart q ∙ r.unmoved x there other q
      by x there other q true same =
          moves_items c (set_at now.node me (made_at now h me event).node) (((item ∷ []) ++ flat_map (shown me) (made_at now h me event).notes) ++ numbered (sent_count now.tape + 1) (made_at now h me event).sends) now.tape x q
          (each_both IsSilent ((item ∷ []) ++ flat_map (shown me) (made_at now h me event).notes) (numbered (sent_count now.tape + 1) (made_at now h me event).sends)
          (own_silent now h me item event own_is, plains_silent (flat_map (shown me) (made_at now h me event).notes) (notes_plain me (made_at now h me event).notes))
          (numbered_silent (sent_count now.tape + 1) (made_at now h me event).sends (quiet (ap (is_node c) (number_is me x.node.0 same) ∙ there) (ap (is_full c) (number_is me x.node.0 same) ∙ other)).sends))
          ∙ r.unmoved x there other q

  -- a node that falls
  cut_roled : (now : Standing) (h : Meanings) (me : ℕ) (item : Item) (event : Event) (node : Node) → node.open_operations ≡ [] → Roled c now.tape now.node → Own now h me item event
      → Roled c (with_items c (set_at now.node me node) now.tape ((item ∷ []) ++ shown me Crashes)) (set_at now.node me node)
  cut_roled now h me item event node none r own_is = record {
    none_open = set_none now.node me node r.none_open (λ there other. none);
    unmoved = λ x there other q. moves_items c (set_at now.node me node) ((item ∷ []) ++ shown me Crashes) now.tape x q (own_silent now h me item event own_is, (tt, tt)) ∙ r.unmoved x there other q;
  }

  fated_roled : (now : Standing) (h : Meanings) (me : ℕ) (item : Item) (event : Event) (fate : Fate) → Good anybody c now → Roled c now.tape now.node → is_up (now.node me).met ≡ true → Own now h me item event
      → ((n : ℕ → Node) → with_item c n now.tape item ≡ item ∷ now.tape)
      → Roled c (fated c now me (item ∷ []) (met_in (setting c h me) (now.node me).met event) (made_at now h me event) (replies_in c me (now.node me).met event) fate).tape
      (fated c now me (item ∷ []) (met_in (setting c h me) (now.node me).met event) (made_at now h me event) (replies_in c me (now.node me).met event) fate).node
  fated_roled now h me item event Whole g r up own_is plain = whole_roled now h me item event g r up own_is plain
  fated_roled now h me item event (CutByLog left) g r up own_is plain = cut_roled now h me item event _ refl r own_is
  fated_roled now h me item event (CutByData left) g r up own_is plain = cut_roled now h me item event _ refl r own_is

  abbrev Is : Standing → Type 0
  Is now = Good anybody c now × Roled c now.tape now.node

  handed_is : (h : Meanings) (cuts : Cuts) (now : Standing) (j : ℕ) (o : Option Message) → message_of now.tape j ≡ o → receiver_up (up now) o ≡ true → Is now → Is (handed c h cuts now j o)
  handed_is h cuts now j None is r i = i
  handed_is h cuts now j (Some m) is r i = (
    handed_good anybody c h (none_brought h) cuts now j (Some m) is r i.0,
    fated_roled now h m.to (Taken j) (Take m) (fate_by now m.to (cuts now m.to) (calls_of c h now m.to (Take m) (made_at now h m.to (Take m)))) i.0 i.1 r (j, refl, stands_sent now.tape j m is, refl) (λ nodes'. refl),
  )

  marked_is : (now : Standing) (item : Item) → IsSilent item → Good anybody c (marked now item) → Is now → Is (marked now item)
  marked_is now item silent g i = (g, record { none_open = (i.1).none_open; unmoved = λ x there other q. silent_moves item now.tape x q silent ∙ (i.1).unmoved x there other q })

  drained_is : (h : Meanings) (cuts : Cuts) (most : ℕ) (now : Standing) → Is now → Is (drained c h cuts now most)
  drained_is h cuts zero now i = go (next_delivery (up now) now.tape)
    where
      go : (o : Option ℕ) → Is (unless_none now (λ j. marked now CutItem) o)
      go None = i
      go (Some j) = marked_is now CutItem tt (marked_good anybody c now CutItem (tape_item c now.tape CutItem tt (λ x q. refl) (λ v q. refl) (λ x. refl) tt (λ schema usage. tt)) (λ x. refl) (λ schema usage. tt) (λ x. refl) i.0) i
  drained_is h cuts (suc most) now i = go (next_delivery (up now) now.tape) refl (λ j. drained_is h cuts most (delivered c h cuts now j))
    where
      go : (o : Option ℕ) → next_delivery (up now) now.tape ≡ o → ((j : ℕ) → Is (delivered c h cuts now j) → Is (drained c h cuts (delivered c h cuts now j) most)) → Is (unless_none now (λ j. drained c h cuts (delivered c h cuts now j) most) o)
      go None e more = i
      go (Some j) e more = more j (handed_is h cuts now j (message_of now.tape j) refl
          (and_parts (not (is_taken now.tape j) && not (is_dropped now.tape j)) (receiver_up (up now) (message_of now.tape j)) (found (is_deliverable (up now) now.tape) _ j e)).1 i)

  delivered_is : (h : Meanings) (cuts : Cuts) (now : Standing) (j : ℕ) (o : Option Message) → message_of now.tape j ≡ o → receiver_down now o ≡ false → Is now → Is (handed c h cuts now j o)
  delivered_is h cuts now j None is r i = i
  delivered_is h cuts now j (Some m) is r i = handed_is h cuts now j (Some m) is (not-false (up now m.to) r) i

  crash_roled : (now : Standing) (me : ℕ) → Roled c now.tape now.node → Roled c (Crash (number me) ∷ now.tape) (set_at now.node me (crashed (now.node me)))
  crash_roled now me r = record { none_open = set_none now.node me (crashed (now.node me)) r.none_open (λ there other. refl); unmoved = λ x there other q. r.unmoved x there other q }

  started_is : (h : Meanings) (now : Standing) (me : ℕ) (fate : Fate) → Is now → Is (fated_start c h now me fate)
  started_is h now me Whole i = (
    fated_start_good anybody c h now me Whole i.0,
    record {
      none_open = set_none now.node me first (i.1).none_open (λ there other. refl);
      unmoved = λ x there other q. moves_items c (set_at now.node me first) (flat_map (shown me) items) now.tape x q (plains_silent (flat_map (shown me) items) (notes_plain me items)) ∙ (i.1).unmoved x there other q;
    },
  )
    where
      first : Node
      first = start (setting c h me) (now.starts me + 1) (now.owed me) (now.node me).met

      items : List Met
      items = start_items (setting c h me) (now.starts me + 1) (now.owed me) (now.node me).met
  started_is h now me (CutByLog left) i = (fated_start_good anybody c h now me (CutByLog left) i.0, crash_roled now me i.1)
  started_is h now me (CutByData left) i = (fated_start_good anybody c h now me (CutByData left) i.0, crash_roled now me i.1)

  fused_good : (now : Standing) (log_fuse data_fuse : ℕ → Option Fuse) → Good anybody c now → Good anybody c (record now { log_fuse = log_fuse; data_fuse = data_fuse })
  fused_good now log_fuse data_fuse g = record { lawful = g.lawful; node = g.node; starts = g.starts; polls = g.polls; written = g.written; unbegun = g.unbegun; answered = g.answered; unfailed = g.unfailed; fresh = g.fresh; unasked = g.unasked; worn = g.worn; owes = g.owes; owed = g.owed }

  event_is : (h : Meanings) (cuts : Cuts) (now : Standing) (event : WorldEvent) → refusal c now event ≡ None → Is now → Is (after_event c h cuts now event)
  event_is h cuts now (TickEvent node clock) r i =
      let second = (not_because (not (is_node c node.0)) 6 _ r).1 in let third = (not_because (not (up now node.0)) 1 _ second).0 in let is_up_so = not-false (up now node.0) third in (
        tick_good anybody c h (none_brought h) now node.0 clock (cuts now node.0) is_up_so i.0,
        fated_roled now h node.0 (TickItem (number node.0) clock) (Tick clock) (fate_by now node.0 (cuts now node.0) (calls_of c h now node.0 (Tick clock) (made_at now h node.0 (Tick clock)))) i.0 i.1 is_up_so refl (λ nodes'. refl),
      )
  event_is h cuts now (Deliver j) r i =
      let second = (not_because (not (is_sent now.tape j)) 3 _ r).1 in let third = (not_because (is_dropped now.tape j) 4 _ second).1 in
      delivered_is h cuts now j (message_of now.tape j) refl (not_because (receiver_down now (message_of now.tape j)) 1 None third).0 i
  event_is h cuts now (Drop j) r i = marked_is now (Dropped j) tt (marked_good anybody c now (Dropped j) (tape_item c now.tape (Dropped j) tt (λ x q. refl) (λ v q. refl) (λ x. refl) tt (λ schema usage. tt)) (λ x. refl) (λ schema usage. tt) (λ x. refl) i.0) i
  event_is h cuts now (Drain most) r i = drained_is h cuts most now i
  event_is h cuts now (CrashEvent node) r i = (crashes_good anybody c now node.0 i.0, crash_roled now node.0 i.1)
  event_is h cuts now (StartEvent node) r i = started_is h now node.0 (fate_by now node.0 (cuts now node.0) (start_calls c node.0)) i
  event_is h cuts now (FuseEvent node calls image Log) r i = (fused_good now (set_at now.log_fuse node.0 (new_fuse calls image)) now.data_fuse i.0, i.1)
  event_is h cuts now (FuseEvent node calls image Data) r i = (fused_good now now.log_fuse (set_at now.data_fuse node.0 (new_fuse calls image)) i.0, i.1)
  event_is h cuts now (BeginEvent node request text) r i =
      let second = (not_because (not (is_node c node.0)) 6 _ r).1 in let third = (not_because (not (up now node.0)) 1 _ second).0 in let is_up_so = not-false (up now node.0) third in (
        begin_good anybody c h (none_brought h) now node.0 request text (cuts now node.0) (λ f. absurd f) is_up_so i.0,
        fated_roled now h node.0 (BeginItem (op_of (setting c h node.0) (now.node node.0).met) text) (Begin request text)
            (fate_by now node.0 (cuts now node.0) (calls_of c h now node.0 (Begin request text) (made_at now h node.0 (Begin request text)))) i.0 i.1 is_up_so refl (λ nodes'. refl),
      )

  all_is : (cuts : Cuts) (events : List Happening) (now : Standing) → Is now → Is (goes_on c cuts now events)
  all_is cuts [] now i = i
  all_is cuts (one ∷ events) now i = all_is cuts events (unless_refused_event now (after_event c one.handlers cuts now one.event) (refusal c now one.event)) (go (refusal c now one.event) refl)
    where
      go : (o : Option ℕ) → refusal c now one.event ≡ o → Is (unless_refused_event now (after_event c one.handlers cuts now one.event) o)
      go None r = event_is one.handlers cuts now one.event r i
      go (Some why) r = i

  opened_is : (h : Meanings) (those : List ℕ) (now : Standing) → Is now → Is (fold (λ now me. fated_start c h now me Whole) now those)
  opened_is h [] now i = i
  opened_is h (me ∷ those) now i = opened_is h those (fated_start c h now me Whole) (started_is h now me Whole i)

  run_roled : (cuts : Cuts) (first : Meanings) (events : List Happening) → Roled c (goes_on c cuts (opening c first) events).tape (goes_on c cuts (opening c first) events).node
  run_roled cuts first events = (all_is cuts events (opening c first) (opened_is first (nodes c) nothing_yet (nothing_good anybody c, record { none_open = λ v there other. refl; unmoved = λ x there other q. refl }))).1

-- ---- the leader behind a log

either_leads : (t : Bool) (a b : Content) (node : ℕ) → (a.leader).0 ≡ node → (b.leader).0 ≡ node → ((cond t a b).leader).0 ≡ node
either_leads true a b node one other = one
either_leads false a b node one other = other

handle_leads : (op : OpId) (name : Name) (effect : Effect) → ((handle_entry op name effect).leader).0 ≡ op.node.0
handle_leads op name effect = either_leads _ (entry_handling op name ([], [])) (entry_handling op name effect) op.node.0 refl refl

-- each entry names the node of an operation that proposed it
leader_is : {schema : Schema} {usage : Usage} {tape : List Item} {op : OpId} {group : GroupId} {below : List Content} {e : Content} → OwnEntry schema usage tape op group below e → (e.leader).0 ≡ op.node.0
leader_is (fills is) = ap (λ (x : Content). (x.leader).0) is
leader_is (runs_one transaction done asked same taken_so is) = ap (λ (x : Content). (x.leader).0) is
leader_is (runs_all transactions asked is) = ap (λ (x : Content). (x.leader).0) is
leader_is (enters its_message sent_so one asked knows there to same fresh is) = ap (λ (x : Content). (x.leader).0) is
leader_is {op = op} (handles one moment asked oldest is) = ap (λ (x : Content). (x.leader).0) is ∙ handle_leads op one.name _

lowest_votes : (c : Cluster) (vs : List ℕ) (v : ℕ) → ((u : ℕ) → Among u vs → is_voter c u ≡ true) → slice_get vs 0 ≡ Some v → is_voter c v ≡ true
lowest_votes c [] v f h = cc
lowest_votes c (x ∷ vs) v f h = f v (inl (same_Some x v h))

module _ (c : Cluster) (usage : Usage) (cuts : Cuts) (begun : Meanings) (events : List Happening) (fits : FitsUsage usage events) (cells : c.cells ≤ length c.nodes) where
  abbrev now : Standing
  now = goes_on c cuts (opening c begun) events

  good : Good anybody c now
  good = run_good c cuts begun events

  -- an entry that is decided names a voter
  names_voter : (node : NodeId) (g : GroupId) (n : ℕ) (e : Content) → Stands (Decide node g (record { 0 = n }) e) now.tape → is_voter c (e.leader).0 ≡ true
  names_voter node g n e stands = by (is_full c (e.leader).0) refl
    where
      chosen : Chosen c (place g n) now.tape e
      chosen = decided_chosen c (place g n) now.tape good.lawful node e stands

      voter : (u : ℕ) × (is_voter c u ≡ true) × (chosen.test u ≡ true)
      voter = majority_voter c chosen.test chosen.majority

      o : Origin c.schema usage now.tape (place g n) e
      o = let p = vote_proposed c now.tape good.lawful voter.0 (place g n) chosen.ballot e (chosen.each voter.0 voter.2) in
          origin c.schema usage now.tape (run_written c usage begun events now.tape (record { cuts = cuts; tape_is = refl }) fits).written p.op (place g n) chosen.ballot e p.stands

      there : is_node c (e.leader).0 ≡ true
      there = act_in_list (acts (now.node voter.0).met g n) (acts_here c (now.node voter.0).met g n ((run_in c cells cuts begun events).nodes voter.0).met)
          (subst (In (Voted chosen.ballot e)) (sym ((good.node voter.0).made (place g n))) (chosen.each voter.0 voter.2))
        where
          act_in_list : (made : List Act) → Each (ActsHere c) made → In (Voted chosen.ballot e) made → is_node c (e.leader).0 ≡ true
          act_in_list [] h i = absurd i
          act_in_list (act ∷ made) h (inl same) = subst (ActsHere c) same h.0
          act_in_list (act ∷ made) h (inr i) = act_in_list made h.1 i

      same : (e.leader).0 ≡ (o.op).node.0
      same = leader_is o.entry

      by : (t : Bool) → is_full c (e.leader).0 ≡ t → is_voter c (e.leader).0 ≡ true
      by true full = full_votes c (e.leader).0 full
      by false other = absurd (subst (In (Proposes o.ballot e)) ((run_roled c cuts begun events).unmoved o.op (ap (is_node c) (sym same) ∙ there) (ap (is_full c) (sym same) ∙ other) (place g n)) o.stands)

  pub has_leader : (g : GroupId) (me : ℕ) → is_voter c me ≡ true → HasLeader c (log_of now.tape g)
  has_leader g me member = by (length (log_of now.tape g)) refl
    where
      named : (last : ℕ) (e : Content) → slice_get (log_of now.tape g) last ≡ Some e → last < length (log_of now.tape g) → is_voter c (e.leader).0 ≡ true
      named last e is less =
          let stood = first_stands now.tape g (record { 0 = 1 + last }) e (sym (log_has now.tape g (length now.tape) 1 last less) ∙ is) in names_voter stood.node g (1 + last) e stood.stands

      some_voter : (vs : List ℕ) → Among me vs → (v : ℕ) × (slice_get vs 0 ≡ Some v)
      some_voter [] i = absurd i
      some_voter (v ∷ vs) i = (v, refl)

      by : (l : ℕ) → length (log_of now.tape g) ≡ l → HasLeader c (log_of now.tape g)
      by zero none = let first = some_voter (voters c) (among_voters c me member) in record {
        leader = first.0;
        leads = ap (leader_behind c (log_of now.tape g)) none ∙ first.1;
        votes = lowest_votes c (voters c) first.0 (λ u i. voter_of c u i) first.1;
      }
      by (suc last) more = let less : last < length (log_of now.tape g) = omega (arith, more) in let found_it = slice_some (log_of now.tape g) last less in record {
        leader = ((found_it.0).leader).0;
        leads = ap (leader_behind c (log_of now.tape g)) more ∙ ap (named_leader (voters c)) found_it.1;
        votes = named last found_it.0 found_it.1 less;
      }
