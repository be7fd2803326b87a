-- Tapes of three full nodes at position 1 of a group, oldest item first: some that are lawful, and some that are not.
use Rattle.std.specs.Prelude.{ℕ, List, [], ◌∷◌, ◌++◌, Option, Some, None}
use Rattle.mega_base.specs.declared.names.Position.{Position}
use Rattle.mega_ballot.specs.declared.ballot.Ballot.{Ballot}
use Rattle.mega_ballot.specs.Order.{zero_ballot}
use Rattle.mega_wire.specs.declared.message.Message.{Message}
use Rattle.mega_base.specs.declared.names.Epoch.{Epoch}
use Rattle.mega_wire.specs.declared.message.Body.TheVariants.{Acquire, Granted as GrantedBody, Invalidate, Prepare, Promise, Refused, Top, Unheld, Where, Decide as Tell}
use Rattle.mega_outcome.specs.declared.answer.Answer.TheVariants.{Committed, Conflict}
use Rattle.mega_wal.specs.Acceptor.{Vote}
use Rattle.mega_promises.specs.of_transcript.declared.item.Item.{Item}
use Rattle.mega_promises.specs.of_transcript.declared.item.Item.TheVariants.{Answer, Begin, Crash, Decide, Sent, Start, Taken}
use Rattle.mega_promises.specs.Items.{number}
use Rattle.mega_promises.specs.of_rules.Met.{Met, Grants, Lapses, Starts, Takes, Ticks}
use Rattle.mega_promises.specs.of_rules.Examples.{accept_for, accepted_from, entry_of, from_to, group, op_of, put}
use Rattle.mega_tape_laws.specs.Places.{Place}
use Rattle.mega_tape_laws.specs.Writes.{Usage}

abbrev pub first : Position
first = record { 0 = 1 }

abbrev pub place : Place
place = record { group = group; position = first }

-- the first ballot above zero of a node's first operation
abbrev pub ballot_of : ℕ → Ballot
ballot_of node = record { round = 1; op = op_of node }

abbrev pub prepare_for : ℕ → ℕ → Message
prepare_for node to = from_to node to (Prepare (op_of node) group first (ballot_of node))

abbrev pub promise_from : ℕ → ℕ → Option Vote → Message
promise_from node from report = from_to from node (Promise (op_of node) group first (ballot_of node) report)

-- the leader, node 1, accepts its operation's entry at ballot zero, and then node 2 does
abbrev pub two_accept : List Item
two_accept = Sent 1 (accept_for 1 1 1 zero_ballot (entry_of 1))
    ∷ Taken 1
    ∷ Sent 2 (accepted_from 1 1 1 zero_ballot (entry_of 1))
    ∷ Taken 2
    ∷ Sent 3 (accept_for 1 2 1 zero_ballot (entry_of 1))
    ∷ Taken 3
    ∷ Sent 4 (accepted_from 1 2 1 zero_ballot (entry_of 1))
    ∷ []

-- node 1 hears of it, and decides
abbrev pub decided_at_zero : List Item
decided_at_zero = two_accept ++ Taken 4 ∷ Decide (number 1) group first (entry_of 1) ∷ []

-- node 3 accepts too, and node 1 hears of all three
abbrev pub all_accept : List Item
all_accept = two_accept
    ++ Sent 5 (accept_for 1 3 1 zero_ballot (entry_of 1))
    ∷ Taken 5
    ∷ Sent 6 (accepted_from 1 3 1 zero_ballot (entry_of 1))
    ∷ Taken 4
    ∷ Taken 6
    ∷ []

-- node 1 crashes once its voter accepted; node 2 prepares, and is told of the entry
abbrev pub reported : List Item
reported = Sent 1 (accept_for 1 1 1 zero_ballot (entry_of 1))
    ∷ Taken 1
    ∷ Sent 2 (accepted_from 1 1 1 zero_ballot (entry_of 1))
    ∷ Crash (number 1)
    ∷ Start (number 1) 2
    ∷ Sent 3 (prepare_for 2 1)
    ∷ Sent 4 (prepare_for 2 2)
    ∷ Taken 3
    ∷ Sent 5 (promise_from 2 1 (Some (zero_ballot, entry_of 1)))
    ∷ Taken 4
    ∷ Sent 6 (promise_from 2 2 None)
    ∷ Taken 5
    ∷ Taken 6
    ∷ []

-- node 2 completes the position with it, and tells node 3
abbrev pub completed : List Item
completed = reported
    ++ Sent 7 (accept_for 2 1 1 (ballot_of 2) (entry_of 1))
    ∷ Sent 8 (accept_for 2 2 1 (ballot_of 2) (entry_of 1))
    ∷ Taken 7
    ∷ Sent 9 (accepted_from 2 1 1 (ballot_of 2) (entry_of 1))
    ∷ Taken 8
    ∷ Sent 10 (accepted_from 2 2 1 (ballot_of 2) (entry_of 1))
    ∷ Taken 9
    ∷ Taken 10
    ∷ Decide (number 2) group first (entry_of 1)
    ∷ Sent 11 (from_to 2 3 (Tell group first (entry_of 1)))
    ∷ Taken 11
    ∷ Decide (number 3) group first (entry_of 1)
    ∷ []

-- a voter promised a ballot, and accepts at a lower one
abbrev pub forgotten : List Item
forgotten = Sent 1 (accept_for 1 1 1 zero_ballot (entry_of 1))
    ∷ Sent 2 (prepare_for 2 1)
    ∷ Taken 2
    ∷ Sent 3 (promise_from 2 1 None)
    ∷ Taken 1
    ∷ Sent 4 (accepted_from 1 1 1 zero_ballot (entry_of 1))
    ∷ []

-- ballot zero goes to a voter that is not the leader, before the leader accepted
abbrev pub early : List Item
early = Sent 1 (accept_for 1 2 1 zero_ballot (entry_of 1)) ∷ []

-- an entry was chosen, and another operation proposes its own above it
abbrev pub kept_own : List Item
kept_own = two_accept ++ Sent 5 (accept_for 2 1 1 (ballot_of 2) (entry_of 2)) ∷ []

-- node 2 was told of an entry by a promise, and proposes its own all the same
abbrev pub passed_over : List Item
passed_over = reported ++ Sent 7 (accept_for 2 1 1 (ballot_of 2) (entry_of 2)) ∷ []

-- a node decides what one voter of three accepted
abbrev pub too_few : List Item
too_few = Sent 1 (accept_for 1 1 1 zero_ballot (entry_of 1))
    ∷ Taken 1
    ∷ Sent 2 (accepted_from 1 1 1 zero_ballot (entry_of 1))
    ∷ Taken 2
    ∷ Decide (number 1) group first (entry_of 1)
    ∷ []

-- the put of node 1's first operation, which is what each text asks for
abbrev pub asks_put : Usage
asks_put = record { meaning = λ text. Some put; handlers = λ moment. [] }

-- node 1's operation begins, proposes its entry, and decides it
abbrev pub put_decided : List Item
put_decided = Begin (op_of 1) [] ∷ decided_at_zero

-- it proposes the entry of another operation as its own
abbrev pub not_its_own : List Item
not_its_own = Begin (op_of 1) [] ∷ Sent 1 (accept_for 1 1 1 zero_ballot (entry_of 2)) ∷ []

-- two operations propose at ballot zero: the first is committed, and the second is told of its entry
abbrev pub rivals_meet : List Item
rivals_meet = Begin (op_of 1) []
    ∷ Begin (op_of 2) []
    ∷ Sent 1 (accept_for 1 1 1 zero_ballot (entry_of 1))
    ∷ Sent 2 (accept_for 2 1 1 zero_ballot (entry_of 2))
    ∷ Taken 1
    ∷ Sent 3 (accepted_from 1 1 1 zero_ballot (entry_of 1))
    ∷ Taken 2
    ∷ Sent 4 (from_to 1 2 (Refused (op_of 2) group first zero_ballot zero_ballot (Some (entry_of 1))))
    ∷ Taken 3
    ∷ Sent 5 (accept_for 1 2 1 zero_ballot (entry_of 1))
    ∷ Taken 5
    ∷ Sent 6 (accepted_from 1 2 1 zero_ballot (entry_of 1))
    ∷ Taken 6
    ∷ []

abbrev pub rivals : List Item
rivals = rivals_meet
    ++ Decide (number 1) group first (entry_of 1)
    ∷ Answer (op_of 1) (Committed first [])
    ∷ Sent 7 (from_to 1 2 (Tell group first (entry_of 1)))
    ∷ Taken 7
    ∷ Decide (number 2) group first (entry_of 1)
    ∷ Answer (op_of 2) (Conflict first (Some (op_of 1)))
    ∷ []

-- an operation is told that it is committed where its entry is not decided
abbrev pub told_too_soon : List Item
told_too_soon = Begin (op_of 1) [] ∷ Sent 1 (accept_for 1 1 1 zero_ballot (entry_of 1)) ∷ Answer (op_of 1) (Committed first []) ∷ []

-- node 2's operation asks two voters, after that, where the log ends
abbrev pub polled : List Item
polled = put_decided
    ++ Begin (op_of 2) []
    ∷ Sent 5 (from_to 2 1 (Where (op_of 2) group))
    ∷ Sent 6 (from_to 2 2 (Where (op_of 2) group))
    ∷ Taken 5
    ∷ Sent 7 (from_to 1 2 (Top (op_of 2) group first))
    ∷ Taken 6
    ∷ Sent 8 (from_to 2 2 (Top (op_of 2) group first))
    ∷ Taken 7
    ∷ Taken 8
    ∷ []

-- the next position of the group
abbrev pub second : Place
second = record { group = group; position = record { 0 = 2 } }

abbrev pub told_by : ℕ → ℕ → ℕ → Message
told_by node to n = from_to node to (Invalidate (op_of node) group (record { 0 = n }))

abbrev pub unheld_at : ℕ → ℕ → ℕ → Message
unheld_at node cell about = from_to cell node (Unheld (op_of node) cell (number about))

-- node 1's operation told node 3 while it covered position 1, and again while it covers position 2, and two cells hold nothing for node 3
abbrev pub asked_before : List Item
asked_before = Sent 1 (told_by 1 3 1)
    ∷ Sent 2 (told_by 1 3 2)
    ∷ Sent 3 (unheld_at 1 1 3)
    ∷ Sent 4 (unheld_at 1 2 3)
    ∷ Taken 3
    ∷ Taken 4
    ∷ []

-- the first epoch of a node's first start
abbrev pub epoch : Epoch
epoch = record { start = 1; count = 0 }

-- the cell of node 1 granted the epoch to node 3, and let it lapse; newest first
abbrev pub lapsed : List Met
lapsed = Lapses 3 epoch ∷ Ticks 200 ∷ Grants 3 epoch ∷ Takes (from_to 3 1 (Acquire 1 epoch 10)) ∷ Ticks 0 ∷ Starts 1 ∷ []

-- node 1 serves, and is told to invalidate the group at position 5
abbrev pub granted_by : ℕ → Met
granted_by cell = Takes (from_to cell 1 (GrantedBody cell epoch 0))

abbrev pub beaten : List Met
beaten = Takes (from_to 2 1 (Invalidate (op_of 2) group (record { 0 = 5 }))) ∷ granted_by 2 ∷ granted_by 1 ∷ Ticks 0 ∷ Starts 1 ∷ []
