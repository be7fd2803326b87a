-- Of which kind a node's answer to each request is.
use Rattle.std.proofs.Common.{◌≡◌, ℕ, ◌==◌, ◌&&◌, List, Option, Some, None}
use Rattle.mega_base.specs.declared.names.OpId.{OpId}
use Rattle.mega_base.specs.declared.names.NodeId.{NodeId}
use Rattle.mega_base.specs.declared.names.Epoch.{Epoch}
use Rattle.mega_base.specs.declared.names.GroupId.{GroupId}
use Rattle.mega_base.specs.declared.names.Position.{Position}
use Rattle.mega_ballot.specs.declared.ballot.Ballot.{Ballot}
use Rattle.mega_cluster.specs.declared.cluster.Cluster.{Cluster}
use Rattle.mega_entry.specs.declared.content.Content.{Content}
use Rattle.mega_wire.specs.declared.message.Body.{Body}
use Rattle.mega_wire.specs.declared.message.Body.TheVariants.{Accept, Accepted, Acquire, Dead, Fetch, Granted, Have, HaveNot, Held, Invalidate, Invalidated, Past, Prepare, Promise, Refused, Top, Unheld, Where}
use Rattle.mega_wal.specs.declared.answers.Promised.{Promised as PromiseAnswer}
use Rattle.mega_wal.specs.declared.answers.Promised.TheVariants as promise
use Rattle.mega_wal.specs.declared.answers.Voted.{Voted as AcceptAnswer}
use Rattle.mega_wal.specs.declared.answers.Voted.TheVariants as vote
use Rattle.mega_wal.specs.Acceptor.{accept_answer, promise_answer}
use Rattle.mega_locks.specs.declared.asked.Asked.{Asked}
use Rattle.mega_locks.specs.declared.asked.Asked.TheVariants.{Granted as AnswerGranted, Renewed, GreaterHeld, Over}
use Rattle.mega_tape_laws.specs.of_rules.Met.{Met}
use Rattle.mega_tape_laws.specs.of_rules.Logs.{decided, top_of}
use Rattle.mega_tape_laws.specs.of_rules.Locks.{asked_for, held_answer, held_at, lock_answer}
use Rattle.mega_tape_laws.specs.of_rules.Members.{is_cell, is_full, is_voter}
use Rattle.mega_tape_laws.specs.of_rules.Replies.{answer_to, fetched}
use Rattle.mega_tape_laws.specs.of_rules.Voting.{acts, prepared, promise_body, vote_body, voted}
use Rattle.mega_run_laws.proofs.Replied.{served}

-- of a log, to one that proposes or fetches
abbrev pub IsLogAnswer : Body → Type 0
IsLogAnswer (Accepted op group n b e) = Unit {0}
IsLogAnswer (Refused op group n asked shown entry) = Unit {0}
IsLogAnswer (Promise op group n b report) = Unit {0}
IsLogAnswer (Have op group n e) = Unit {0}
IsLogAnswer (HaveNot op group n) = Unit {0}
IsLogAnswer _ = ⊥

-- of a cell, to one that asks for an epoch
abbrev pub IsLockAnswer : Body → Type 0
IsLockAnswer (Granted cell epoch clock) = Unit {0}
IsLockAnswer (Past cell epoch greatest) = Unit {0}
IsLockAnswer _ = ⊥

-- of a cell, to one that takes a node for dead
abbrev pub IsHeldAnswer : Body → Type 0
IsHeldAnswer (Held op cell node) = Unit {0}
IsHeldAnswer (Unheld op cell node) = Unit {0}
IsHeldAnswer _ = ⊥

-- of a full node, to one that invalidates
abbrev pub IsInvalidated : Body → Type 0
IsInvalidated (Invalidated op group n) = Unit {0}
IsInvalidated _ = ⊥

-- of a voter, to one that polls
abbrev pub IsTop : Body → Type 0
IsTop (Top op group n) = Unit {0}
IsTop _ = ⊥

abbrev pub IsAnswer : Body → Body → Type 0
IsAnswer (Where op group) = IsTop
IsAnswer (Accept op group n b e) = IsLogAnswer
IsAnswer (Prepare op group n b) = IsLogAnswer
IsAnswer (Fetch op group n) = IsLogAnswer
IsAnswer (Invalidate op group n) = IsInvalidated
IsAnswer (Dead op cell node) = IsHeldAnswer
IsAnswer (Acquire cell epoch clock) = IsLockAnswer
IsAnswer _ = λ answer. ⊥

vote_kind : (op : OpId) (group : GroupId) (n : Position) (b : Ballot) (e : Content) (a : AcceptAnswer) → IsLogAnswer (vote_body op group n b e a)
vote_kind op group n b e vote.Yes = tt
vote_kind op group n b e (vote.Shown greater) = tt
vote_kind op group n b e (vote.Other other) = tt

promise_kind : (op : OpId) (group : GroupId) (n : Position) (b : Ballot) (a : PromiseAnswer) → IsLogAnswer (promise_body op group n b a)
promise_kind op group n b (promise.Yes report) = tt
promise_kind op group n b (promise.Shown greater) = tt

fetch_kind : (op : OpId) (group : GroupId) (n : Position) (o : Option Content) → IsLogAnswer (fetched op group n o)
fetch_kind op group n None = tt
fetch_kind op group n (Some entry) = tt

held_kind : (op : OpId) (cell : ℕ) (node : NodeId) (o : Option Epoch) → IsHeldAnswer (held_answer op cell node o)
held_kind op cell node None = tt
held_kind op cell node (Some epoch) = tt

lock_kind : (cell : ℕ) (epoch : Epoch) (clock : ℕ) (a : Asked) → IsLockAnswer (lock_answer cell epoch clock a)
lock_kind cell epoch clock AnswerGranted = tt
lock_kind cell epoch clock Renewed = tt
lock_kind cell epoch clock (GreaterHeld greatest) = tt
lock_kind cell epoch clock (Over greatest) = tt

pub answer_kind : (c : Cluster) (me : ℕ) (met : List Met) (from : ℕ) (asked answer : Body) → answer_to c me met from asked ≡ Some answer → IsAnswer asked answer
answer_kind c me met from (Where op group) answer h = served (is_voter c me) (Top op group (record { 0 = top_of met group })) answer IsTop tt h
answer_kind c me met from (Accept op group n b e) answer h =
    served (is_voter c me) (voted (acts met group n.0) op group n b e) answer IsLogAnswer (vote_kind op group n b e (accept_answer (acts met group n.0) b e)) h
answer_kind c me met from (Prepare op group n b) answer h =
    served (is_voter c me) (prepared (acts met group n.0) op group n b) answer IsLogAnswer (promise_kind op group n b (promise_answer (acts met group n.0) b)) h
answer_kind c me met from (Fetch op group n) answer h =
    served (is_voter c me) (fetched op group n (decided met group n.0)) answer IsLogAnswer (fetch_kind op group n (decided met group n.0)) h
answer_kind c me met from (Invalidate op group n) answer h = served (is_full c me) (Invalidated op group n) answer IsInvalidated tt h
answer_kind c me met from (Dead op cell node) answer h =
    served (cell == me && is_cell c me) (held_answer op cell node (held_at c me met node.0)) answer IsHeldAnswer (held_kind op cell node (held_at c me met node.0)) h
answer_kind c me met from (Acquire cell epoch clock) answer h =
    served (cell == me && is_cell c me) (lock_answer cell epoch clock (asked_for c me met from epoch)) answer IsLockAnswer (lock_kind cell epoch clock (asked_for c me met from epoch)) h
answer_kind c me met from _ answer h = cc
