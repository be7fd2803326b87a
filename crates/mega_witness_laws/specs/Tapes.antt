-- Tapes that the laws refuse, oldest item first: a read that misses what was decided, a group that is valid by a poll of an earlier epoch, and entries of which a
-- full node is not covered.
use Rattle.std.specs.Prelude.{ℕ, List, [], ◌∷◌, ◌++◌, Option, Some, None}
use Rattle.mega_base.specs.declared.names.Epoch.{Epoch}
use Rattle.mega_ballot.specs.Order.{zero_ballot}
use Rattle.mega_wire.specs.declared.message.Message.{Message}
use Rattle.mega_wire.specs.declared.message.Body.TheVariants.{Dead, Top, Where}
use Rattle.mega_outcome.specs.declared.answer.Answer.TheVariants.{Committed, Read as ReadAnswer}
use Rattle.mega_outcome.specs.declared.request.Mode.TheVariants.{Current}
use Rattle.mega_outcome.specs.declared.request.ReadRequest.{ReadRequest}
use Rattle.mega_outcome.specs.declared.request.Request.{Request}
use Rattle.mega_outcome.specs.declared.request.Request.TheVariants.{Read}
use Rattle.mega_valid_laws.specs.of_settled_laws.of_tape_laws.of_transcript.declared.item.Item.{Item}
use Rattle.mega_valid_laws.specs.of_settled_laws.of_tape_laws.of_transcript.declared.item.Item.TheVariants.{Answer, Begin, Counts, Decide, Forgets, Grant, Lost, Sent, Serving, Taken, Valid}
use Rattle.mega_valid_laws.specs.of_settled_laws.of_tape_laws.of_promises.Items.{number}
use Rattle.mega_valid_laws.specs.of_settled_laws.of_tape_laws.of_promises.Worked.{user_101}
use Rattle.mega_valid_laws.specs.of_settled_laws.of_tape_laws.of_rules.Examples.{accept_for, accepted_from, entry_of, from_to, group, op_of, put}
use Rattle.mega_valid_laws.specs.of_settled_laws.of_tape_laws.Writes.{Usage}
use Rattle.mega_valid_laws.specs.of_settled_laws.of_tape_laws.Examples.{all_accept, ballot_of, epoch, first, put_decided, second, told_by, unheld_at}

-- ---- a read that misses what was decided

abbrev pub user_read : ReadRequest
user_read = record { mode = Current; group = group; rows = user_101 ∷ [] }

-- the empty text means the put, and any other the read
abbrev pub put_or_read : List ℕ → Option Request
put_or_read [] = Some put
put_or_read (byte ∷ more) = Some (Read user_read)

abbrev pub put_then_read : Usage
put_then_read = record { meaning = put_or_read; handlers = λ moment. [] }

-- the put is decided, and a current read that begins then finds no row through position 0
abbrev pub missed : List Item
missed = put_decided ++ Begin (op_of 2) (1 ∷ []) ∷ Answer (op_of 2) (ReadAnswer (record { 0 = 0 }) (None ∷ [])) ∷ []

-- ---- a poll of an earlier epoch

abbrev pub next_epoch : Epoch
next_epoch = record { start = 1; count = 1 }

-- two cells grant node 2 an epoch, and it serves
abbrev pub serves_in : Epoch → List Item
serves_in e = Grant 1 (number 2) e ∷ Grant 2 (number 2) e ∷ Counts (number 2) 1 e ∷ Counts (number 2) 2 e ∷ Serving (number 2) e ∷ []

-- it loses that epoch
abbrev pub loses : Epoch → List Item
loses e = Forgets (number 2) 1 e ∷ Forgets (number 2) 2 e ∷ Lost (number 2) e ∷ []

abbrev pub asked_two : List Item
asked_two = Sent 7 (from_to 2 1 (Where (op_of 2) group)) ∷ Sent 8 (from_to 2 2 (Where (op_of 2) group)) ∷ []

abbrev pub two_answer : List Item
two_answer = Taken 7
    ∷ Sent 9 (from_to 1 2 (Top (op_of 2) group first))
    ∷ Taken 8
    ∷ Sent 10 (from_to 2 2 (Top (op_of 2) group first))
    ∷ Taken 9
    ∷ Taken 10
    ∷ []

-- node 2 decided what all accepted; an operation asks two voters in its first epoch, and their answers come in the next
abbrev pub polled_across : List Item
polled_across = all_accept ++ Decide (number 2) group first (entry_of 1) ∷ serves_in epoch ++ asked_two ++ loses epoch ++ serves_in next_epoch ++ two_answer

-- and they make the group valid
abbrev pub valid_across : List Item
valid_across = polled_across ++ Valid (number 2) group first ∷ []

-- ---- a full node that is not covered

-- node 1's operation is committed by what nodes 1 and 2 accepted
abbrev pub committed_uncovered : List Item
committed_uncovered = put_decided ++ Answer (op_of 1) (Committed first []) ∷ []

abbrev pub dead_at : ℕ → ℕ → ℕ → Message
dead_at node cell about = from_to node cell (Dead (op_of node) cell (number about))

-- node 1's operation completes position 1 with another's entry, which nodes 1 and 2 accept
abbrev pub accepted_first : List Item
accepted_first = Sent 1 (accept_for 1 1 1 (ballot_of 1) (entry_of 2))
    ∷ Sent 2 (accept_for 1 2 1 (ballot_of 1) (entry_of 2))
    ∷ Taken 1
    ∷ Sent 3 (accepted_from 1 1 1 (ballot_of 1) (entry_of 2))
    ∷ Taken 2
    ∷ Sent 4 (accepted_from 1 2 1 (ballot_of 1) (entry_of 2))
    ∷ Taken 3
    ∷ Taken 4
    ∷ []

-- it tells node 3 to count the group invalid, and asks two cells about it, which hold nothing
abbrev pub cells_answer : List Item
cells_answer = Sent 5 (told_by 1 3 1)
    ∷ Sent 6 (dead_at 1 1 3)
    ∷ Sent 7 (dead_at 1 2 3)
    ∷ Taken 6
    ∷ Sent 8 (unheld_at 1 1 3)
    ∷ Taken 7
    ∷ Sent 9 (unheld_at 1 2 3)
    ∷ Taken 8
    ∷ Taken 9
    ∷ []

-- so position 1 is decided
abbrev pub first_covered : List Item
first_covered = accepted_first ++ cells_answer ++ Decide (number 1) group first (entry_of 2) ∷ []

-- its own entry is accepted by nodes 2 and 1 at position 2, where it tells node 3 so again
abbrev pub accepted_second : List Item
accepted_second = Sent 10 (accept_for 1 2 2 zero_ballot (entry_of 1))
    ∷ Taken 10
    ∷ Sent 11 (accepted_from 1 2 2 zero_ballot (entry_of 1))
    ∷ Taken 11
    ∷ Sent 12 (accept_for 1 1 2 zero_ballot (entry_of 1))
    ∷ Taken 12
    ∷ Sent 13 (accepted_from 1 1 2 zero_ballot (entry_of 1))
    ∷ Taken 13
    ∷ Sent 14 (told_by 1 3 2)
    ∷ []

-- and position 2 is decided by what the cells said before
abbrev pub covered_before : List Item
covered_before = first_covered ++ accepted_second ++ Decide (number 1) group second.position (entry_of 1) ∷ []
