-- A tape on which an operation polls two voters, after a position was decided.
use Rattle.std.proofs.Common.{◌≡◌, inl, inr, ℕ, zero, suc, ◌≤◌, ◌==◌, Bool, true, false, [], refl, arith}
use Rattle.mega_base.specs.declared.names.Position.{Position}
use Rattle.mega_ballot.specs.declared.ballot.Ballot.{Ballot}
use Rattle.mega_ballot.specs.Order.{zero_ballot}
use Rattle.mega_entry.specs.declared.content.Content.{Content}
use Rattle.mega_wire.specs.declared.message.Body.TheVariants.{Top}
use Rattle.mega_wal.specs.Acceptor.{Voted}
use Rattle.mega_promises.specs.of_rules.Voting.{act_if}
use Rattle.mega_promises.specs.of_rules.Examples.{cluster, entry_of, group, op_of}
use Rattle.mega_promises.specs.of_transcript.Tape.{newest}
use Rattle.mega_tape_laws.specs.Examples.{asks_put, first, polled}
use Rattle.mega_tape_laws.specs.Lawful.{Heard}
use Rattle.mega_tape_laws.specs.Places.{In}
use Rattle.mega_tape_laws.specs.Polls.{ArePolls, IsPolled}
use Rattle.mega_tape_laws.specs.Writes.{LawfulWrites}
use Rattle.mega_tape_laws.proofs.Ballots.{number_is}
use Rattle.mega_tape_laws.proofs.Witnesses.{first_two, two_of_three}
use Rattle.mega_tape_laws.proofs.Writing.{lawful, written}
use Rattle.std.specs.List.{cons_option}

pub writes : LawfulWrites cluster asks_put (newest polled)
writes = record { lawful = (tt, (tt, (tt, (tt, (tt, (tt, (tt, (tt, (tt, lawful))))))))); written = (tt, (tt, (tt, (tt, (tt, (tt, (tt, (tt, (λ named. refl, written))))))))) }

-- the one vote is at position 1
pub one_vote : (n : Position) (b : Ballot) (e : Content) → In (Voted b e) (cons_option (act_if (1 == n.0) (Voted zero_ballot (entry_of 1))) []) → n.0 ≤ 1
one_vote n b e i = go (1 == n.0) (number_is 1 n.0) i
  where
    go : (t : Bool) → (t ≡ true → 1 ≡ n.0) → In (Voted b e) (cons_option (act_if t (Voted zero_ballot (entry_of 1))) []) → n.0 ≤ 1
    go true is j = let same = is refl in omega arith
    go false is j = absurd j

pub polls : ArePolls (newest polled)
polls = (tt, (tt, (record { asked = record { number = 6; sent = inr (inr (inr (inl refl))); taken = inl refl }; most = one_vote }, (tt, (record { asked = record { number = 5; sent = inr (inr (inl refl)); taken = inl refl }; most = one_vote }, (tt, (tt, (tt, (refl, (tt, (tt, (tt, (tt, (tt, (tt, (tt, (tt, (tt, (refl, tt)))))))))))))))))))

pub asked : IsPolled cluster (newest polled) (op_of 2) group first
asked = record { test = first_two; majority = two_of_three; heard = heard }
  where
    heard : (voter : ℕ) → first_two voter ≡ true → (top : Position) × Heard (newest polled) voter (op_of 2) (Top (op_of 2) group top) × (top.0 ≤ 1)
    heard zero h = cc
    heard (suc zero) h = (first, (record { number = 7; sent = inr (inr (inr (inr (inl refl)))); taken = inr (inl refl) }), omega arith)
    heard (suc (suc zero)) h = (first, (record { number = 8; sent = inr (inr (inl refl)); taken = inl refl }), omega arith)
    heard (suc (suc (suc n))) h = cc
