-- What a node replies, tells of a decision, fetches and asks cells for goes to nodes of its cluster.
use Rattle.std.proofs.Common.{ℕ, ◌==◌, ◌&&◌, ◌≤◌, Bool, true, false, not, List, [], ◌∷◌, length, map, flat_map, Option, Some, None}
use Rattle.std.specs.Prelude.{nat_lt}
use Rattle.mega_base.specs.declared.names.Epoch.{Epoch}
use Rattle.mega_base.specs.declared.names.GroupId.{GroupId}
use Rattle.mega_base.specs.declared.names.NodeId.{NodeId}
use Rattle.mega_base.specs.declared.names.OpId.{OpId}
use Rattle.mega_base.specs.declared.names.Position.{Position}
use Rattle.mega_base.specs.Codec.{IsOption}
use Rattle.mega_ballot.specs.declared.ballot.Ballot.{Ballot}
use Rattle.mega_ballot.specs.Order.{zero_ballot}
use Rattle.mega_cluster.specs.declared.cluster.Cluster.{Cluster}
use Rattle.mega_entry.specs.declared.content.Content.{Content}
use Rattle.mega_wire.specs.declared.message.Message.{Message}
use Rattle.mega_wire.specs.declared.message.Body.{Body}
use Rattle.mega_wire.specs.declared.message.Body.TheVariants.{Where, Top, Accept, Prepare, Invalidate, Invalidated, Dead, Fetch, Acquire}
use Rattle.mega_wal.specs.Acceptor.{Act, Vote, accept_answer, answer_beside, best, is_ballot_below, is_same_ballot, promise_answer, shown}
use Rattle.mega_wal.specs.Same.{same_entry}
use Rattle.mega_wal.specs.declared.answers.Promised.{Promised as PromiseAnswer}
use Rattle.mega_wal.specs.declared.answers.Promised.TheVariants as promise
use Rattle.mega_wal.specs.declared.answers.Voted.{Voted as AcceptAnswer}
use Rattle.mega_wal.specs.declared.answers.Voted.TheVariants as vote
use Rattle.mega_locks.specs.declared.asked.Asked.{Asked}
use Rattle.mega_locks.specs.declared.asked.Asked.TheVariants as lock
use Rattle.mega_coordinator.specs.History.{Call as CoordinatorCall, Ticks as CoordinatorTicks, counted_cells, epoch_after, serving}
use Rattle.mega_format_laws.specs.of_rules.of_read.of_propose.Members.{others}
use Rattle.mega_format_laws.specs.of_rules.Met.{Met}
use Rattle.mega_format_laws.specs.of_rules.Members.{cells, has_rows, is_cell, is_full, is_voter, nodes, voters}
use Rattle.mega_format_laws.specs.of_rules.Clock.{does_again, start_of, ticks_of}
use Rattle.mega_format_laws.specs.of_rules.Voting.{acts, prepared, promise_body, vote_body, voted}
use Rattle.mega_format_laws.specs.of_rules.Logs.{decided, groups_of, newest_of, prefix_of, top_of}
use Rattle.mega_format_laws.specs.of_rules.Locks.{asked_for, held_answer, held_at, lock_answer}
use Rattle.mega_format_laws.specs.of_rules.Coordinators.{acquire_to, acquires, acquires_at, asked_cells, coordinator_calls, is_cell_in}
use Rattle.mega_format_laws.specs.of_rules.Replies.{answer_to, fetched, reply_message, reply_to, where_served}
use Rattle.mega_format_laws.specs.of_rules.Operations.{Setting}
use Rattle.mega_format_laws.specs.of_rules.Steps.{Decision, background, decide_to, fetch_to, fetches_for, news}
use Rattle.mega_format_laws.specs.Rounds.{Each}
use Rattle.mega_format_laws.proofs.Each.{each_filter, each_map, either}
use Rattle.mega_member_laws.specs.Messages.{AreWithin, CarriesHere, IsHere, IsWithin, NamesHere, VotesHere}
use Rattle.mega_member_laws.specs.Nodes.{DecidesHere, MetWithin}
use Rattle.mega_member_laws.proofs.Members.{any_flat, cells_here, nodes_here, voters_here}
use Rattle.mega_member_laws.proofs.Histories.{ActsHere, acts_here, best_here, decided_here}

served : (c : Cluster) (t : Bool) (body : Body) → CarriesHere c body → IsOption (CarriesHere c) (where_served t body)
served c true body h = h
served c false body h = tt

-- ---- votes and promises

abbrev PromisesHere : Cluster → PromiseAnswer → Type 0
PromisesHere c (promise.Yes report) = VotesHere c report
PromisesHere c (promise.Shown greater) = Unit {0}

promise_here : (c : Cluster) (op : OpId) (group : GroupId) (position : Position) (ballot : Ballot) (answer : PromiseAnswer) → PromisesHere c answer → CarriesHere c (promise_body op group position ballot answer)
promise_here c op group position ballot (promise.Yes report) h = h
promise_here c op group position ballot (promise.Shown greater) h = tt

prepared_here : (c : Cluster) (made : List Act) (op : OpId) (group : GroupId) (position : Position) (ballot : Ballot) → Each (ActsHere c) made → CarriesHere c (prepared made op group position ballot)
prepared_here c made op group position ballot h = promise_here c op group position ballot (promise_answer made ballot)
    (either (PromisesHere c) (is_ballot_below ballot (shown made)) (promise.Shown (shown made)) (promise.Yes (best made)) tt (best_here c made h))

abbrev AcceptsHere : Cluster → AcceptAnswer → Type 0
AcceptsHere c vote.Yes = Unit {0}
AcceptsHere c (vote.Shown greater) = Unit {0}
AcceptsHere c (vote.Other other) = NamesHere c other

beside_here : (c : Cluster) (accepted : Option Vote) (entry : Content) → VotesHere c accepted → AcceptsHere c (answer_beside accepted entry)
beside_here c None entry h = tt
beside_here c (Some accepted) entry h = either (AcceptsHere c) (same_entry accepted.1 entry) vote.Yes (vote.Other accepted.1) tt h

vote_here : (c : Cluster) (op : OpId) (group : GroupId) (position : Position) (ballot : Ballot) (entry : Content) (answer : AcceptAnswer) → NamesHere c entry → AcceptsHere c answer
    → CarriesHere c (vote_body op group position ballot entry answer)
vote_here c op group position ballot entry vote.Yes e h = e
vote_here c op group position ballot entry (vote.Shown greater) e h = tt
vote_here c op group position ballot entry (vote.Other other) e h = h

voted_here : (c : Cluster) (made : List Act) (op : OpId) (group : GroupId) (position : Position) (ballot : Ballot) (entry : Content) → Each (ActsHere c) made → NamesHere c entry
    → CarriesHere c (voted made op group position ballot entry)
voted_here c made op group position ballot entry h e = vote_here c op group position ballot entry (accept_answer made ballot entry) e
    (either (AcceptsHere c) (is_ballot_below ballot (shown made)) (vote.Shown (shown made)) _ tt
    (either (AcceptsHere c) (is_same_ballot ballot zero_ballot) (answer_beside (best made) entry) vote.Yes (beside_here c (best made) entry (best_here c made h)) tt))

-- ---- the other replies

fetched_here : (c : Cluster) (op : OpId) (group : GroupId) (position : Position) (found : Option Content) → IsOption (NamesHere c) found → CarriesHere c (fetched op group position found)
fetched_here c op group position None h = tt
fetched_here c op group position (Some entry) h = h

held_here : (c : Cluster) (op : OpId) (cell : ℕ) (node : NodeId) (found : Option Epoch) → CarriesHere c (held_answer op cell node found)
held_here c op cell node None = tt
held_here c op cell node (Some epoch) = tt

lock_here : (c : Cluster) (cell : ℕ) (epoch : Epoch) (clock : ℕ) (asked : Asked) → CarriesHere c (lock_answer cell epoch clock asked)
lock_here c cell epoch clock lock.Granted = tt
lock_here c cell epoch clock lock.Renewed = tt
lock_here c cell epoch clock (lock.GreaterHeld greatest) = tt
lock_here c cell epoch clock (lock.Over greatest) = tt

answer_here : (c : Cluster) (me : ℕ) (met : List Met) (from : ℕ) (body : Body) → MetWithin c met → CarriesHere c body → IsOption (CarriesHere c) (answer_to c me met from body)
answer_here c me met from (Where op group) h b = served c (is_voter c me) (Top op group (record { 0 = top_of met group })) tt
answer_here c me met from (Accept op group position ballot entry) h b = served c (is_voter c me) (voted (acts met group position.0) op group position ballot entry)
    (voted_here c (acts met group position.0) op group position ballot entry (acts_here c met group position.0 h) b)
answer_here c me met from (Prepare op group position ballot) h b = served c (is_voter c me) (prepared (acts met group position.0) op group position ballot)
    (prepared_here c (acts met group position.0) op group position ballot (acts_here c met group position.0 h))
answer_here c me met from (Fetch op group position) h b = served c (is_voter c me) (fetched op group position (decided met group position.0))
    (fetched_here c op group position (decided met group position.0) (decided_here c met group position.0 h))
answer_here c me met from (Invalidate op group position) h b = served c (is_full c me) (Invalidated op group position) tt
answer_here c me met from (Dead op cell node) h b = served c (cell == me && is_cell c me) (held_answer op cell node (held_at c me met node.0)) (held_here c op cell node (held_at c me met node.0))
answer_here c me met from (Acquire cell epoch clock) h b = served c (cell == me && is_cell c me) (lock_answer cell epoch clock (asked_for c me met from epoch))
    (lock_here c cell epoch clock (asked_for c me met from epoch))
answer_here c me met from _ h b = tt

sent_back : (c : Cluster) (me to : ℕ) (answer : Option Body) → IsHere c me → IsHere c to → IsOption (CarriesHere c) answer → AreWithin c (reply_message me to answer)
sent_back c me to None m t h = tt
sent_back c me to (Some body) m t h = (record { from = m; to = t; body = h }, tt)

pub reply_within : (c : Cluster) (me : ℕ) (met : List Met) (m : Message) → IsHere c me → MetWithin c met → IsWithin c m → AreWithin c (reply_to c me met m)
reply_within c me met m i h b = sent_back c me m.from (answer_to c me met m.from m.body) i b.from (answer_here c me met m.from m.body h b.body)

-- ---- decisions are told to the others

decide_within : (c : Cluster) (me to : ℕ) (d : Decision) → IsHere c me → IsHere c to → NamesHere c d.entry → IsWithin c (decide_to me d to)
decide_within c me to d m t h = record { from = m; to = t; body = h }

pub news_within : (s : Setting) (d : Option Decision) → IsHere s.cluster s.me → DecidesHere s.cluster d → AreWithin s.cluster (news s d)
news_within s None m h = tt
news_within s (Some d) m h = each_map (IsHere s.cluster) (IsWithin s.cluster) (decide_to s.me d) (λ to t. decide_within s.cluster s.me to d m t h) (others s.me (nodes s.cluster))
    (each_filter (IsHere s.cluster) (λ other. not (other == s.me)) (nodes s.cluster) (nodes_here s.cluster))

-- ---- what is fetched in the background

fetch_within : (s : Setting) (met : List Met) (group : GroupId) (to : ℕ) → IsHere s.cluster s.me → IsHere s.cluster to → IsWithin s.cluster (fetch_to s met group to)
fetch_within s met group to m t = record { from = m; to = t; body = tt }

fetches_within : (s : Setting) (met : List Met) (group : GroupId) → IsHere s.cluster s.me → AreWithin s.cluster (fetches_for s met group)
fetches_within s met group m = either (AreWithin s.cluster) (nat_lt (prefix_of met group) (newest_of met group)) (map (fetch_to s met group) (others s.me (voters s.cluster))) []
    (each_map (IsHere s.cluster) (IsWithin s.cluster) (fetch_to s met group) (λ to t. fetch_within s met group to m t) (others s.me (voters s.cluster))
    (each_filter (IsHere s.cluster) (λ other. not (other == s.me)) (voters s.cluster) (voters_here s.cluster))) tt

pub background_within : (s : Setting) (met : List Met) (now : ℕ) → IsHere s.cluster s.me → AreWithin s.cluster (background s met now)
background_within s met now m = either (AreWithin s.cluster) (has_rows s.cluster s.me && does_again s.cluster.retry (ticks_of met) now) (flat_map (fetches_for s met) (groups_of met)) []
    (any_flat (IsWithin s.cluster) (fetches_for s met) (λ group. fetches_within s met group m) (groups_of met)) tt

-- ---- what cells are asked for

acquire_within : (c : Cluster) (me : ℕ) (epoch : Epoch) (now cell : ℕ) → IsHere c me → IsHere c cell → IsWithin c (acquire_to me epoch now cell)
acquire_within c me epoch now cell m t = record { from = m; to = t; body = tt }

asked_here : (c : Cluster) (counted : List Bool) (serves : Option Epoch) → c.cells ≤ length c.nodes → Each (IsHere c) (asked_cells c counted serves)
asked_here c counted None few = cells_here c few
asked_here c counted (Some epoch) few = each_filter (IsHere c) (is_cell_in counted) (cells c) (cells_here c few)

acquires_within : (c : Cluster) (me : ℕ) (calls : List CoordinatorCall) (start now : ℕ) (epoch : Option Epoch) → c.cells ≤ length c.nodes → IsHere c me → AreWithin c (acquires c me calls start now epoch)
acquires_within c me calls start now None few m = tt
acquires_within c me calls start now (Some epoch) few m = each_map (IsHere c) (IsWithin c) (acquire_to me epoch now) (λ cell is. acquire_within c me epoch now cell m is)
    (asked_cells c (counted_cells start c.cells calls) (serving start c.cells calls)) (asked_here c (counted_cells start c.cells calls) (serving start c.cells calls) few)

pub acquires_at_within : (c : Cluster) (me : ℕ) (met : List Met) (now : ℕ) → c.cells ≤ length c.nodes → IsHere c me → AreWithin c (acquires_at c me met now)
acquires_at_within c me met now few m = either (AreWithin c) (is_full c me && does_again c.retry (ticks_of met) now) _ []
    (acquires_within c me (CoordinatorTicks now ∷ coordinator_calls c met) (start_of met) now (epoch_after (start_of met) c.cells (CoordinatorTicks now ∷ coordinator_calls c met)) few m) tt
