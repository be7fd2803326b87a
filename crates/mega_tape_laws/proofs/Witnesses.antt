-- Tapes that are lawful: each item with the reason why it was allowed.
use Rattle.std.proofs.Common.{◌≡◌, inl, inr, ℕ, zero, suc, ◌<◌, Bool, true, false, List, ◌∷◌, Option, Some, None, refl, sym, ap, arith}
use Rattle.mega_ballot.specs.Order.{zero_ballot}
use Rattle.mega_wire.specs.declared.message.Body.TheVariants.{Accepted, Promise}
use Rattle.mega_wal.specs.Acceptor.{Vote, is_ballot_below}
use Rattle.mega_promises.specs.of_transcript.declared.item.Item.{Item}
use Rattle.mega_promises.specs.of_transcript.declared.item.Item.TheVariants.{Sent, Taken}
use Rattle.mega_promises.specs.of_transcript.Tape.{newest}
use Rattle.mega_promises.specs.of_rules.Examples.{accept_for, accepted_from, cluster, entry_of, group, op_of}
use Rattle.mega_tape_laws.specs.Places.{IsMajority}
use Rattle.mega_tape_laws.specs.Lawful.{Carries, Heard, IsOwn, Lawful, Picked, asks, greatest, lowest, picks, raises, repeats, resends, settled, spreads, told}
use Rattle.mega_tape_laws.specs.Examples.{ballot_of, completed, decided_at_zero, first, place, reported, two_accept}
use Rattle.mega_tape_laws.proofs.Lists.{some_is}

-- nodes 1 and 2 are a majority of three
abbrev pub first_two : ℕ → Bool
first_two zero = false
first_two (suc zero) = true
first_two (suc (suc zero)) = true
first_two (suc (suc (suc n))) = false

pub two_of_three : IsMajority cluster first_two
two_of_three = let h : 3 < 4 = omega arith in h

pub two_accept_lawful : Lawful cluster (newest two_accept)
two_accept_lawful = (record { asked = record { number = 3; sent = inr (inl refl); taken = inl refl }; answer = refl }, (tt, (spreads 1 refl (lowest refl refl) (record { number = 2; sent = inr (inl refl); taken = inl refl }), (tt, (record { asked = record { number = 1; sent = inr (inl refl); taken = inl refl }; answer = refl }, (tt, (asks refl (lowest refl refl), tt)))))))

two_heard : (voter : ℕ) → first_two voter ≡ true → Heard (Taken 4 ∷ newest two_accept) voter (op_of 1) (Accepted (op_of 1) group first zero_ballot (entry_of 1))
two_heard zero h = cc
two_heard (suc zero) h = record { number = 2; sent = inr (inr (inr (inr (inr (inl refl))))); taken = inr (inr (inr (inr (inl refl)))) }
two_heard (suc (suc zero)) h = record { number = 4; sent = inr (inl refl); taken = inl refl }
two_heard (suc (suc (suc n))) h = cc

pub decided_at_zero_lawful : Lawful cluster (newest decided_at_zero)
decided_at_zero_lawful = (settled (op_of 1) zero_ballot first_two refl two_of_three two_heard, (tt, two_accept_lawful))

own_two : IsOwn (op_of 2) (ballot_of 2)
own_two = record { names = refl; above = let h : 0 < 1 = omega arith in h }

reported_lawful : Lawful cluster (newest reported)
reported_lawful = (tt, (tt, (record { asked = record { number = 4; sent = inr (inr (inr (inl refl))); taken = inl refl }; answer = refl }, (tt, (record { asked = record { number = 3; sent = inr (inr (inl refl)); taken = inl refl }; answer = refl }, (tt, (resends own_two refl, (raises own_two tt, (tt, (tt, (record { asked = record { number = 1; sent = inr (inl refl); taken = inl refl }; answer = refl }, (tt, (asks refl (lowest refl refl), tt)))))))))))))

-- what the promises report: node 1 accepted at ballot zero, node 2 did not
report : ℕ → Option Vote
report zero = None
report (suc zero) = Some (zero_ballot, entry_of 1)
report (suc (suc n)) = None

promises_heard : (voter : ℕ) → first_two voter ≡ true → Heard (newest reported) voter (op_of 2) (Promise (op_of 2) group first (ballot_of 2) (report voter))
unfolding report
promises_heard zero h = cc
promises_heard (suc zero) h = record { number = 5; sent = inr (inr (inr (inr (inl refl)))); taken = inr (inl refl) }
promises_heard (suc (suc zero)) h = record { number = 6; sent = inr (inr (inl refl)); taken = inl refl }
promises_heard (suc (suc (suc n))) h = cc

most : (other : ℕ) (reported : Vote) → first_two other ≡ true → report other ≡ Some reported → is_ballot_below zero_ballot reported.0 ≡ false
unfolding report
most zero x t h = cc
most (suc zero) x t h = ap (λ (v : Vote). is_ballot_below zero_ballot v.0) (sym (some_is (zero_ballot, entry_of 1) x h))
most (suc (suc n)) x t h = cc

carried : Carries first_two report (entry_of 1)
unfolding report
carried = greatest 1 zero_ballot refl refl most

picked : Picked cluster (newest reported) (op_of 2) place (ballot_of 2) (entry_of 1)
picked = record { test = first_two; report = report; majority = two_of_three; heard = promises_heard; carries = carried }

-- the tape up to node 2's decide
abbrev accepted : List Item
accepted = Taken 10 ∷ Taken 9 ∷ Sent 10 (accepted_from 2 2 1 (ballot_of 2) (entry_of 1)) ∷ Taken 8 ∷ Sent 9 (accepted_from 2 1 1 (ballot_of 2) (entry_of 1)) ∷ Taken 7
    ∷ Sent 8 (accept_for 2 2 1 (ballot_of 2) (entry_of 1)) ∷ Sent 7 (accept_for 2 1 1 (ballot_of 2) (entry_of 1)) ∷ newest reported

accepted_lawful : Lawful cluster accepted
accepted_lawful = (tt, (tt, (record { asked = record { number = 8; sent = inr (inr (inr (inl refl))); taken = inl refl }; answer = refl }, (tt, (record { asked = record { number = 7; sent = inr (inr (inl refl)); taken = inl refl }; answer = refl }, (tt, (repeats own_two refl, (picks own_two refl picked, reported_lawful))))))))

accepts_heard : (voter : ℕ) → first_two voter ≡ true → Heard accepted voter (op_of 2) (Accepted (op_of 2) group first (ballot_of 2) (entry_of 1))
accepts_heard zero h = cc
accepts_heard (suc zero) h = record { number = 9; sent = inr (inr (inr (inr (inl refl)))); taken = inr (inl refl) }
accepts_heard (suc (suc zero)) h = record { number = 10; sent = inr (inr (inl refl)); taken = inl refl }
accepts_heard (suc (suc (suc n))) h = cc

pub completed_lawful : Lawful cluster (newest completed)
completed_lawful = (told 2 (record { number = 11; sent = inr (inl refl); taken = inl refl }), (tt, (inl refl, (settled (op_of 2) (ballot_of 2) first_two refl two_of_three accepts_heard, accepted_lawful))))
