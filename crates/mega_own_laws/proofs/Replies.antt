-- What a node replies, tells of a decision, fetches and asks cells for tells only of own entries.
use Rattle.std.proofs.Common.{ℕ, ◌==◌, ◌&&◌, Bool, true, false, cond, List, [], ◌∷◌, map, flat_map, Option, Some, None}
use Rattle.std.specs.Prelude.{nat_lt}
use Rattle.mega_base.specs.Codec.{IsOption}
use Rattle.mega_base.specs.declared.names.Epoch.{Epoch}
use Rattle.mega_base.specs.declared.names.GroupId.{GroupId}
use Rattle.mega_base.specs.declared.names.NodeId.{NodeId}
use Rattle.mega_base.specs.declared.names.OpId.{OpId}
use Rattle.mega_base.specs.declared.names.Position.{Position}
use Rattle.mega_ballot.specs.declared.ballot.Ballot.{Ballot}
use Rattle.mega_ballot.specs.Order.{zero_ballot}
use Rattle.mega_cluster.specs.declared.cluster.Cluster.{Cluster}
use Rattle.mega_coordinator.specs.History.{Call, Ticks as CoordinatorTicks, counted_cells, epoch_after, serving}
use Rattle.mega_entry.specs.declared.content.Content.{Content}
use Rattle.mega_locks.specs.declared.asked.Asked.{Asked}
use Rattle.mega_locks.specs.declared.asked.Asked.TheVariants as lock
use Rattle.mega_schema.specs.declared.schema.Schema.{Schema}
use Rattle.mega_wire.specs.declared.message.Message.{Message}
use Rattle.mega_wire.specs.declared.message.Body.{Body}
use Rattle.mega_wire.specs.declared.message.Body.TheVariants.{Where, Top, Accept, Prepare, Invalidate, Invalidated, Dead, Fetch, Acquire}
use Rattle.mega_wal.specs.Acceptor.{Act, Vote, answer_beside, best, is_ballot_below, is_same_ballot, shown}
use Rattle.mega_wal.specs.Same.{same_entry}
use Rattle.mega_wal.specs.declared.answers.Promised.{Promised as PromiseAnswer}
use Rattle.mega_wal.specs.declared.answers.Promised.TheVariants as promise
use Rattle.mega_wal.specs.declared.answers.Voted.{Voted as AcceptAnswer}
use Rattle.mega_wal.specs.declared.answers.Voted.TheVariants as vote
use Rattle.mega_run_laws.specs.of_rules.of_read.of_propose.Members.{others}
use Rattle.mega_run_laws.specs.of_rules.Met.{Met}
use Rattle.mega_run_laws.specs.of_rules.Members.{has_rows, is_cell, is_full, is_voter, nodes, voters}
use Rattle.mega_run_laws.specs.of_rules.Clock.{does_again, start_of, ticks_of}
use Rattle.mega_run_laws.specs.of_rules.Voting.{acts, prepared, promise_body, vote_body, voted}
use Rattle.mega_run_laws.specs.of_rules.Logs.{decided, groups_of, newest_of, prefix_of, top_of}
use Rattle.mega_run_laws.specs.of_rules.Locks.{asked_for, held_answer, held_at, lock_answer}
use Rattle.mega_run_laws.specs.of_rules.Coordinators.{acquire_to, acquires, acquires_at, asked_cells, coordinator_calls}
use Rattle.mega_run_laws.specs.of_rules.Replies.{answer_to, fetched, reply_message, reply_to, where_served}
use Rattle.mega_run_laws.specs.of_rules.Operations.{Setting}
use Rattle.mega_run_laws.specs.of_rules.Steps.{Decision, background, decide_to, fetch_to, fetches_for, news}
use Rattle.mega_run_laws.specs.Justified.{Each}
use Rattle.mega_own_laws.specs.Entries.{IsOwn}
use Rattle.mega_own_laws.specs.Messages.{AllTellOwn, CarriesOwn, TellsOwn, VoteOwn}
use Rattle.mega_own_laws.specs.Nodes.{DecisionOwn, MetOwn}
use Rattle.mega_own_laws.proofs.Lists.{any_flat, any_map, either}
use Rattle.mega_own_laws.proofs.Histories.{ActOwn, acts_own, best_own, decided_own}

module _ (schema : Schema) where
  served : (t : Bool) (body : Body) → CarriesOwn schema body → IsOption (CarriesOwn schema) (where_served t body)
  served true body h = h
  served false body h = tt

  -- ---- votes and promises, and entries that are fetched

  module _ (op : OpId) (group : GroupId) (position : Position) where
    prepared_own : (made : List Act) (ballot : Ballot) → Each (ActOwn schema group) made → CarriesOwn schema (prepared made op group position ballot)
    prepared_own made ballot h = either (λ (answer : PromiseAnswer). CarriesOwn schema (promise_body op group position ballot answer)) (is_ballot_below ballot (shown made)) (promise.Shown (shown made)) (promise.Yes (best made))
        tt (best_own schema group made h)

    module _ (ballot : Ballot) (entry : Content) (own : IsOwn schema group entry) where
      abbrev IsVote : AcceptAnswer → Type 0
      IsVote answer = CarriesOwn schema (vote_body op group position ballot entry answer)

      beside_own : (accepted : Option Vote) → VoteOwn schema group accepted → IsVote (answer_beside accepted entry)
      beside_own None h = own
      beside_own (Some accepted) h = either IsVote (same_entry accepted.1 entry) vote.Yes (vote.Other accepted.1) own h

      voted_own : (made : List Act) → Each (ActOwn schema group) made → CarriesOwn schema (voted made op group position ballot entry)
      voted_own made h =
          either IsVote (is_ballot_below ballot (shown made)) (vote.Shown (shown made)) (cond (is_same_ballot ballot zero_ballot) (answer_beside (best made) entry) vote.Yes) tt
          (either IsVote (is_same_ballot ballot zero_ballot) (answer_beside (best made) entry) vote.Yes (beside_own (best made) (best_own schema group made h)) own)

    fetched_own : (found : Option Content) → IsOption (IsOwn schema group) found → CarriesOwn schema (fetched op group position found)
    fetched_own None h = tt
    fetched_own (Some entry) h = h

  -- ---- replies

  held_own : (op : OpId) (cell : ℕ) (node : NodeId) (found : Option Epoch) → CarriesOwn schema (held_answer op cell node found)
  held_own op cell node None = tt
  held_own op cell node (Some epoch) = tt

  lock_own : (cell : ℕ) (epoch : Epoch) (clock : ℕ) (asked : Asked) → CarriesOwn schema (lock_answer cell epoch clock asked)
  lock_own cell epoch clock lock.Granted = tt
  lock_own cell epoch clock lock.Renewed = tt
  lock_own cell epoch clock (lock.GreaterHeld greatest) = tt
  lock_own cell epoch clock (lock.Over greatest) = tt

  answer_own : (c : Cluster) (me : ℕ) (met : List Met) (from : ℕ) (body : Body) → MetOwn schema met → CarriesOwn schema body → IsOption (CarriesOwn schema) (answer_to c me met from body)
  answer_own c me met from (Where op group) h b = served (is_voter c me) (Top op group (record { 0 = top_of met group })) tt
  answer_own c me met from (Accept op group position ballot entry) h b = served (is_voter c me) (voted (acts met group position.0) op group position ballot entry)
      (voted_own op group position ballot entry b (acts met group position.0) (acts_own schema group met position.0 h))
  answer_own c me met from (Prepare op group position ballot) h b = served (is_voter c me) (prepared (acts met group position.0) op group position ballot)
      (prepared_own op group position (acts met group position.0) ballot (acts_own schema group met position.0 h))
  answer_own c me met from (Fetch op group position) h b = served (is_voter c me) (fetched op group position (decided met group position.0))
      (fetched_own op group position (decided met group position.0) (decided_own schema group met position.0 h))
  answer_own c me met from (Invalidate op group position) h b = served (is_full c me) (Invalidated op group position) tt
  answer_own c me met from (Dead op cell node) h b = served (cell == me && is_cell c me) (held_answer op cell node (held_at c me met node.0)) (held_own op cell node (held_at c me met node.0))
  answer_own c me met from (Acquire cell epoch clock) h b = served (cell == me && is_cell c me) (lock_answer cell epoch clock (asked_for c me met from epoch)) (lock_own cell epoch clock (asked_for c me met from epoch))
  answer_own c me met from _ h b = tt

  sent_back : (me to : ℕ) (answer : Option Body) → IsOption (CarriesOwn schema) answer → AllTellOwn schema (reply_message me to answer)
  sent_back me to None h = tt
  sent_back me to (Some body) h = (h, tt)

  pub reply_own : (c : Cluster) (me : ℕ) (met : List Met) (m : Message) → MetOwn schema met → TellsOwn schema m → AllTellOwn schema (reply_to c me met m)
  reply_own c me met m h b = sent_back me m.from (answer_to c me met m.from m.body) (answer_own c me met m.from m.body h b)

  -- ---- what a node sends by itself

  pub news_own : (s : Setting) (d : Option Decision) → DecisionOwn schema d → AllTellOwn schema (news s d)
  news_own s None h = tt
  news_own s (Some d) h = any_map (TellsOwn schema) (decide_to s.me d) (λ to. h) (others s.me (nodes s.cluster))

  fetches_own : (s : Setting) (met : List Met) (group : GroupId) → AllTellOwn schema (fetches_for s met group)
  fetches_own s met group = either (AllTellOwn schema) (nat_lt (prefix_of met group) (newest_of met group)) (map (fetch_to s met group) (others s.me (voters s.cluster))) []
      (any_map (TellsOwn schema) (fetch_to s met group) (λ to. tt) (others s.me (voters s.cluster))) tt

  pub background_own : (s : Setting) (met : List Met) (now : ℕ) → AllTellOwn schema (background s met now)
  background_own s met now = either (AllTellOwn schema) (has_rows s.cluster s.me && does_again s.cluster.retry (ticks_of met) now) (flat_map (fetches_for s met) (groups_of met)) []
      (any_flat (TellsOwn schema) (fetches_for s met) (fetches_own s met) (groups_of met)) tt

  acquires_own : (c : Cluster) (me : ℕ) (calls : List Call) (start now : ℕ) (epoch : Option Epoch) → AllTellOwn schema (acquires c me calls start now epoch)
  acquires_own c me calls start now None = tt
  acquires_own c me calls start now (Some epoch) = any_map (TellsOwn schema) (acquire_to me epoch now) (λ cell. tt) (asked_cells c (counted_cells start c.cells calls) (serving start c.cells calls))

  pub acquires_at_own : (c : Cluster) (me : ℕ) (met : List Met) (now : ℕ) → AllTellOwn schema (acquires_at c me met now)
  acquires_at_own c me met now = either (AllTellOwn schema) (is_full c me && does_again c.retry (ticks_of met) now) _ []
      (acquires_own c me (CoordinatorTicks now ∷ coordinator_calls c met) (start_of met) now (epoch_after (start_of met) c.cells (CoordinatorTicks now ∷ coordinator_calls c met))) tt
