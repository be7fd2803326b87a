-- What a node replies, tells of a decision, fetches and asks cells for is of the format.
use Rattle.std.proofs.Common.{◌≡◌, ℕ, zero, suc, ◌+◌, ◌==◌, ◌&&◌, ◌≤◌, Bool, true, false, not, cond, List, [], ◌∷◌, map, flat_map, Option, Some, None, refl, arith}
use Rattle.std.specs.Prelude.{nat_lt}
use Rattle.std.specs.List.{range_with_len}
use Rattle.std.proofs.lemmas.Bool.Decides.{nat_tests}
use Rattle.mega_base.specs.declared.names.Epoch.{Epoch}
use Rattle.mega_base.specs.declared.names.GroupId.{GroupId}
use Rattle.mega_base.specs.declared.names.NodeId.{NodeId}
use Rattle.mega_base.specs.declared.names.OpId.{OpId}
use Rattle.mega_base.specs.declared.names.Position.{Position}
use Rattle.mega_base.specs.Codec.{IsBetween, IsOption}
use Rattle.mega_base.specs.Names.{IsEpoch, IsGroup, IsNode, IsOp, IsPositionIn}
use Rattle.mega_ballot.specs.declared.ballot.Ballot.{Ballot}
use Rattle.mega_ballot.specs.Ballots.{IsBallot}
use Rattle.mega_ballot.specs.Order.{zero_ballot}
use Rattle.mega_cluster.specs.declared.cluster.Cluster.{Cluster}
use Rattle.mega_entry.specs.declared.content.Content.{Content}
use Rattle.mega_wire.specs.declared.message.Message.{Message}
use Rattle.mega_wire.specs.declared.message.Body.{Body}
use Rattle.mega_wire.specs.declared.message.Body.TheVariants.{Where, Top, Accept, Prepare, Invalidate, Invalidated, Dead, Fetch, Acquire, Request, Reply}
use Rattle.mega_wire.specs.Messages.{IsMessage, IsBody}
use Rattle.mega_wal.specs.Acceptor.{Act, Vote, accept_answer, answer_beside, best, is_ballot_below, is_same_ballot, promise_answer, shown}
use Rattle.mega_wal.specs.Same.{same_entry}
use Rattle.mega_wal.specs.declared.answers.Promised.{Promised as PromiseAnswer}
use Rattle.mega_wal.specs.declared.answers.Promised.TheVariants as promise
use Rattle.mega_wal.specs.declared.answers.Voted.{Voted as AcceptAnswer}
use Rattle.mega_wal.specs.declared.answers.Voted.TheVariants as vote
use Rattle.mega_locks.specs.declared.asked.Asked.{Asked}
use Rattle.mega_locks.specs.declared.asked.Asked.TheVariants as lock
use Rattle.mega_coordinator.specs.History.{Call as CoordinatorCall, Ticks as CoordinatorTicks, counted_cells, epoch_after, serving}
use Rattle.mega_voter.specs.of_rules.of_read.of_propose.Members.{others}
use Rattle.mega_voter.specs.of_rules.Met.{Met}
use Rattle.mega_voter.specs.of_rules.Members.{cells, has_rows, is_cell, is_full, is_voter, nodes, voters}
use Rattle.mega_voter.specs.of_rules.Clock.{does_again, start_of, ticks_of}
use Rattle.mega_voter.specs.of_rules.Voting.{acts, prepared, promise_body, vote_body, voted}
use Rattle.mega_voter.specs.of_rules.Logs.{decided, groups_of, newest_of, prefix_of, top_of}
use Rattle.mega_voter.specs.of_rules.Locks.{asked_for, held_answer, held_at, lock_answer}
use Rattle.mega_voter.specs.of_rules.Coordinators.{acquire_to, acquires, acquires_at, asked_cells, coordinator_calls, is_cell_in}
use Rattle.mega_voter.specs.of_rules.Replies.{answer_to, fetched, reply_message, reply_to, where_served}
use Rattle.mega_voter.specs.of_rules.Operations.{Setting}
use Rattle.mega_voter.specs.of_rules.Steps.{Decision, background, decide_to, fetch_to, fetches_for, news}
use Rattle.mega_format_laws.specs.Rounds.{AreMessages, Each, IsMember, IsShort, IsVote}
use Rattle.mega_format_laws.specs.Histories.{IsClock, IsCluster, IsMet}
use Rattle.mega_format_laws.specs.Decisions.{AreDecided, IsDecision}
use Rattle.mega_format_laws.proofs.Each.{each_filter, each_flat, each_map, either}
use Rattle.mega_format_laws.proofs.Rounds.{zero_is_ballot}
use Rattle.mega_format_laws.proofs.Histories.{IsAct, IsDecided, acts_formed, best_formed, decided_formed, groups_formed, newest_formed, nodes_formed, shown_formed, start_formed, top_formed, voters_formed}
use Rattle.mega_format_laws.proofs.Locks.{IsAsked, asked_for_formed, epoch_formed}

-- ---- messages between nodes

abbrev IsPeer : Body → Type 0
IsPeer (Request token json) = ⊥
IsPeer (Reply token text) = ⊥
IsPeer _ = Unit {0}

peer_message : (me to : ℕ) (body : Body) → IsMember me → IsMember to → IsPeer body → IsBody body → IsMessage (record { from = me; to = to; body = body })
peer_message me to (Request token json) m t p b = absurd p
peer_message me to (Reply token text) m t p b = absurd p
peer_message me to _ m t p b = record { from = m; to = t; body = b }

abbrev IsAnswer : Option Body → Type 0
IsAnswer None = Unit {0}
IsAnswer (Some body) = IsPeer body × IsBody body

served_formed : (t : Bool) (body : Body) → IsPeer body → IsBody body → IsAnswer (where_served t body)
served_formed true body p b = (p, b)
served_formed false body p b = tt

abbrev IsReply : Body → Type 0
IsReply body = IsPeer body × IsBody body

served : (t : Bool) (body : Body) → IsReply body → IsAnswer (where_served t body)
served t body h = served_formed t body h.0 h.1

-- ---- votes and promises

abbrev IsPromise : PromiseAnswer → Type 0
IsPromise (promise.Yes report) = IsVote report
IsPromise (promise.Shown greater) = IsBallot greater

promise_formed : (op : OpId) (group : GroupId) (position : Position) (ballot : Ballot) (answer : PromiseAnswer) → IsOp op → IsGroup group → IsPositionIn 1 1000000 position → IsBallot ballot → IsPromise answer
    → IsReply (promise_body op group position ballot answer)
promise_formed op group position ballot (promise.Yes report) o g n b h = (tt, (o, (g, (n, (b, h)))))
promise_formed op group position ballot (promise.Shown greater) o g n b h = (tt, (o, (g, (n, (b, (h, tt))))))

prepared_formed : (made : List Act) (op : OpId) (group : GroupId) (position : Position) (ballot : Ballot) → Each IsAct made → IsOp op → IsGroup group → IsPositionIn 1 1000000 position → IsBallot ballot
    → IsReply (prepared made op group position ballot)
prepared_formed made op group position ballot h o g n b = promise_formed op group position ballot (promise_answer made ballot) o g n b
    (either IsPromise (is_ballot_below ballot (shown made)) (promise.Shown (shown made)) (promise.Yes (best made)) (shown_formed made h) (best_formed made h))

abbrev IsVoted : AcceptAnswer → Type 0
IsVoted vote.Yes = Unit {0}
IsVoted (vote.Shown greater) = IsBallot greater
IsVoted (vote.Other other) = IsShort other

beside_formed : (accepted : Option Vote) (entry : Content) → IsVote accepted → IsVoted (answer_beside accepted entry)
beside_formed None entry h = tt
beside_formed (Some accepted) entry h = either IsVoted (same_entry accepted.1 entry) vote.Yes (vote.Other accepted.1) tt h.1

vote_formed : (op : OpId) (group : GroupId) (position : Position) (ballot : Ballot) (entry : Content) (answer : AcceptAnswer) → IsOp op → IsGroup group → IsPositionIn 1 1000000 position → IsBallot ballot → IsShort entry → IsVoted answer
    → IsReply (vote_body op group position ballot entry answer)
vote_formed op group position ballot entry vote.Yes o g n b e h = (tt, (o, (g, (n, (b, e)))))
vote_formed op group position ballot entry (vote.Shown greater) o g n b e h = (tt, (o, (g, (n, (b, (h, tt))))))
vote_formed op group position ballot entry (vote.Other other) o g n b e h = (tt, (o, (g, (n, (zero_is_ballot, (zero_is_ballot, h))))))

voted_formed : (made : List Act) (op : OpId) (group : GroupId) (position : Position) (ballot : Ballot) (entry : Content) → Each IsAct made → IsOp op → IsGroup group → IsPositionIn 1 1000000 position → IsBallot ballot → IsShort entry
    → IsReply (voted made op group position ballot entry)
voted_formed made op group position ballot entry h o g n b e = vote_formed op group position ballot entry (accept_answer made ballot entry) o g n b e
    (either IsVoted (is_ballot_below ballot (shown made)) (vote.Shown (shown made)) _ (shown_formed made h)
    (either IsVoted (is_same_ballot ballot zero_ballot) (answer_beside (best made) entry) vote.Yes (beside_formed (best made) entry (best_formed made h)) tt))

-- ---- the other replies

fetched_formed : (op : OpId) (group : GroupId) (position : Position) (found : Option Content) → IsOp op → IsGroup group → IsPositionIn 1 1000000 position → IsDecided found position.0 → IsReply (fetched op group position found)
fetched_formed op group position None o g n h = (tt, (o, (g, n)))
fetched_formed op group position (Some entry) o g n h = (tt, (o, (g, (n, h.1))))

held_formed : (op : OpId) (cell : ℕ) (node : NodeId) (found : Option Epoch) → IsOp op → IsBetween 1 5 cell → IsNode node → IsReply (held_answer op cell node found)
held_formed op cell node None o c n = (tt, (o, (c, n)))
held_formed op cell node (Some epoch) o c n = (tt, (o, (c, n)))

lock_formed : (cell : ℕ) (epoch : Epoch) (clock : ℕ) (asked : Asked) → IsBetween 1 5 cell → IsEpoch epoch → IsClock clock → IsAsked asked → IsReply (lock_answer cell epoch clock asked)
lock_formed cell epoch clock lock.Granted c e t h = (tt, (c, (e, t)))
lock_formed cell epoch clock lock.Renewed c e t h = (tt, (c, (e, t)))
lock_formed cell epoch clock (lock.GreaterHeld greatest) c e t h = (tt, (c, (e, h)))
lock_formed cell epoch clock (lock.Over greatest) c e t h = (tt, (c, (e, h)))

answer_formed : (c : Cluster) (me : ℕ) (met : List Met) (from : ℕ) (body : Body) → IsMet met → IsBody body → IsAnswer (answer_to c me met from body)
answer_formed c me met from (Where op group) h b = served (is_voter c me) (Top op group (record { 0 = top_of met group })) (tt, (b.0, (b.1, (omega arith, top_formed met group h))))
answer_formed c me met from (Accept op group position ballot entry) h b = served (is_voter c me) (voted (acts met group position.0) op group position ballot entry)
    (voted_formed (acts met group position.0) op group position ballot entry (acts_formed met group position.0 h) b.0 b.1.0 b.1.1.0 b.1.1.1.0 b.1.1.1.1)
answer_formed c me met from (Prepare op group position ballot) h b = served (is_voter c me) (prepared (acts met group position.0) op group position ballot)
    (prepared_formed (acts met group position.0) op group position ballot (acts_formed met group position.0 h) b.0 b.1.0 b.1.1.0 b.1.1.1)
answer_formed c me met from (Fetch op group position) h b = served (is_voter c me) (fetched op group position (decided met group position.0))
    (fetched_formed op group position (decided met group position.0) b.0 b.1.0 b.1.1 (decided_formed met group position.0 h))
answer_formed c me met from (Invalidate op group position) h b = served (is_full c me) (Invalidated op group position) (tt, b)
answer_formed c me met from (Dead op cell node) h b = served (cell == me && is_cell c me) (held_answer op cell node (held_at c me met node.0)) (held_formed op cell node (held_at c me met node.0) b.0 b.1.0 b.1.1)
answer_formed c me met from (Acquire cell epoch clock) h b = served (cell == me && is_cell c me) (lock_answer cell epoch clock (asked_for c me met from epoch))
    (lock_formed cell epoch clock (asked_for c me met from epoch) b.0 b.1.0 b.1.1 (asked_for_formed c me met from epoch h))
answer_formed c me met from _ h b = tt

sent_back : (me to : ℕ) (answer : Option Body) → IsMember me → IsMember to → IsAnswer answer → AreMessages (reply_message me to answer)
sent_back me to None m t h = tt
sent_back me to (Some body) m t h = (peer_message me to body m t h.0 h.1, tt)

replies_at : (c : Cluster) (me : ℕ) (met : List Met) (from to : ℕ) (body : Body) → IsMember me → IsMet met → IsMessage (record { from = from; to = to; body = body }) → AreMessages (reply_message me from (answer_to c me met from body))
replies_at c me met from to (Request token json) m h b = tt
replies_at c me met from to body m h b = sent_back me from (answer_to c me met from body) m b.from (answer_formed c me met from body h b.body)

pub reply_formed : (c : Cluster) (me : ℕ) (met : List Met) (m : Message) → IsMember me → IsMet met → IsMessage m → AreMessages (reply_to c me met m)
reply_formed c me met m i h b = replies_at c me met m.from m.to m.body i h (record { from = b.from; to = b.to; body = b.body })

-- ---- decisions are told to the others

decide_formed : (me to : ℕ) (d : Decision) → IsMember me → IsMember to → IsDecision d → IsMessage (decide_to me d to)
decide_formed me to d m t h = record { from = m; to = t; body = (h.group, (h.position, h.entry)) }

pub news_formed : (s : Setting) (d : Option Decision) → IsCluster s.cluster → IsMember s.me → AreDecided d → AreMessages (news s d)
news_formed s None c m h = tt
news_formed s (Some d) c m h = each_map IsMember IsMessage (decide_to s.me d) (λ to t. decide_formed s.me to d m t h) (others s.me (nodes s.cluster))
    (each_filter IsMember (λ other. not (other == s.me)) (nodes s.cluster) (nodes_formed s.cluster c))

-- ---- what is fetched in the background

pub byte_of : (n : ℕ) → IsMember n → IsBetween 0 255 n
byte_of n h = let few = h.1 in (omega arith, omega (arith, few))

fetch_formed : (s : Setting) (met : List Met) (group : GroupId) (to : ℕ) → IsMember s.me → IsMet met → IsGroup group → IsMember to → prefix_of met group + 1 ≤ 1000000 → IsMessage (fetch_to s met group to)
fetch_formed s met group to m h g t le = record { from = m; to = t; body = ((byte_of s.me m, start_formed met h, (omega arith, omega arith)), (g, (omega arith, le))) }

fetches_formed : (s : Setting) (met : List Met) (group : GroupId) → IsCluster s.cluster → IsMember s.me → IsMet met → IsGroup group → AreMessages (fetches_for s met group)
fetches_formed s met group c m h g = go (nat_lt (prefix_of met group) (newest_of met group)) refl
  where
    above : (a b : ℕ) → nat_lt a b ≡ true → b ≤ 1000000 → a + 1 ≤ 1000000
    above a b e le = grind (arith, nat_tests)

    go : (t : Bool) → nat_lt (prefix_of met group) (newest_of met group) ≡ t → AreMessages (cond t (map (fetch_to s met group) (others s.me (voters s.cluster))) [])
    go true e = each_map IsMember IsMessage (fetch_to s met group) (λ to t. fetch_formed s met group to m h g t (above (prefix_of met group) (newest_of met group) e (newest_formed met group h))) (others s.me (voters s.cluster))
        (each_filter IsMember (λ other. not (other == s.me)) (voters s.cluster) (voters_formed s.cluster c))
    go false e = tt

pub background_formed : (s : Setting) (met : List Met) (now : ℕ) → IsCluster s.cluster → IsMember s.me → IsMet met → AreMessages (background s met now)
background_formed s met now c m h = either AreMessages (has_rows s.cluster s.me && does_again s.cluster.retry (ticks_of met) now) (flat_map (fetches_for s met) (groups_of met)) []
    (each_flat IsGroup IsMessage (fetches_for s met) (λ group g. fetches_formed s met group c m h g) (groups_of met) (groups_formed met h)) tt

-- ---- what cells are asked for

acquire_formed : (me : ℕ) (epoch : Epoch) (now cell : ℕ) → IsMember me → IsEpoch epoch → IsClock now → IsBetween 1 5 cell → IsMessage (acquire_to me epoch now cell)
acquire_formed me epoch now cell m e t c = let few = c.1 in record { from = m; to = (c.0, omega (arith, few)); body = (c, (e, t)) }

each_cell : (a n : ℕ) → 1 ≤ a → a + n ≤ 6 → Each (IsBetween 1 5) (range_with_len a n)
each_cell a zero low high = tt
each_cell a (suc n) low high = ((low, omega (arith, high)), each_cell (a + 1) n (omega (arith, low)) (omega (arith, high)))

cells_formed : (c : Cluster) → IsCluster c → Each (IsBetween 1 5) (cells c)
cells_formed c h = let few = h.cells in each_cell 1 c.cells (omega arith) (omega (arith, few))

asked_formed : (c : Cluster) (counted : List Bool) (serves : Option Epoch) → IsCluster c → Each (IsBetween 1 5) (asked_cells c counted serves)
asked_formed c counted None h = cells_formed c h
asked_formed c counted (Some epoch) h = each_filter (IsBetween 1 5) (is_cell_in counted) (cells c) (cells_formed c h)

acquires_formed : (c : Cluster) (me : ℕ) (calls : List CoordinatorCall) (start now : ℕ) (epoch : Option Epoch) → IsCluster c → IsMember me → IsClock now → IsOption IsEpoch epoch → AreMessages (acquires c me calls start now epoch)
acquires_formed c me calls start now None h m t e = tt
acquires_formed c me calls start now (Some epoch) h m t e = each_map (IsBetween 1 5) IsMessage (acquire_to me epoch now) (λ cell is. acquire_formed me epoch now cell m e t is)
    (asked_cells c (counted_cells start c.cells calls) (serving start c.cells calls)) (asked_formed c (counted_cells start c.cells calls) (serving start c.cells calls) h)

pub acquires_at_formed : (c : Cluster) (me : ℕ) (met : List Met) (now : ℕ) → IsCluster c → IsMember me → IsMet met → IsClock now → AreMessages (acquires_at c me met now)
acquires_at_formed c me met now h m k t = either AreMessages (is_full c me && does_again c.retry (ticks_of met) now) _ []
    (acquires_formed c me (CoordinatorTicks now ∷ coordinator_calls c met) (start_of met) now (epoch_after (start_of met) c.cells (CoordinatorTicks now ∷ coordinator_calls c met)) h m t
    (epoch_formed (start_of met) c.cells (CoordinatorTicks now ∷ coordinator_calls c met) (start_formed met k))) tt
