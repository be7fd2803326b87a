-- Tapes that no rule allows: what the law or a rule says against them.
use Rattle.std.proofs.Common.{◌≡◌, ℕ, zero, suc, ◌+◌, ◌*◌, ◌<◌, Bool, true, false, cond, [], inl, refl, ap, arith}
use Rattle.mega_ballot.specs.declared.ballot.Ballot.{Ballot}
use Rattle.mega_ballot.specs.Order.{zero_ballot}
use Rattle.mega_entry.specs.declared.content.Content.{Content}
use Rattle.mega_wal.specs.Acceptor.{Voted}
use Rattle.mega_wal.specs.declared.answers.Voted.TheVariants as vote
use Rattle.mega_promises.specs.of_transcript.Tape.{newest}
use Rattle.mega_promises.specs.Items.{number}
use Rattle.mega_promises.specs.of_rules.Examples.{cluster, entry_of, op_of}
use Rattle.mega_tape_laws.specs.Chosen.{Chosen}
use Rattle.mega_tape_laws.specs.Places.{In, acts}
use Rattle.mega_tape_laws.specs.Lawful.{Lawful, Leads, MayPropose, asks, lowest, named, picks, repeats, spreads}
use Rattle.mega_tape_laws.specs.Examples.{ballot_of, early, forgotten, kept_own, place, too_few}
use Rattle.mega_tape_laws.proofs.Lists.{some_is}
use Rattle.mega_tape_laws.proofs.Agreement.{carried_entry, decided_chosen}
use Rattle.mega_tape_laws.proofs.Witnesses.{first_two, two_of_three}

-- the voter would have shown the greater ballot
refuses : (b : Ballot) → vote.Shown b ≡ vote.Yes → ⊥
refuses b h = cc

pub not_forgotten : Lawful cluster (newest forgotten) → ⊥
not_forgotten l = refuses (ballot_of 2) (l.0).answer

-- the leader of position 1 is node 1
not_led : Leads cluster [] 1 place 2 → ⊥
not_led (lowest at is) = let h : ◌≡◌ {A = ℕ} 1 2 = some_is 1 2 is in omega arith
not_led (named below entry above at s is) = s

not_offered : MayPropose cluster [] 1 2 (op_of 1) place zero_ballot (entry_of 1) → ⊥
not_offered (asks at_zero leads) = not_led leads
not_offered (spreads leader at_zero leads heard) = heard.sent
not_offered (picks own last picked) = let h : 0 < 0 = own.above in omega arith
not_offered (repeats own last) = let h : 0 < 0 = own.above in omega arith

pub not_early : Lawful cluster (newest early) → ⊥
not_early l = not_offered l.0

-- nodes 1 and 2 accepted the entry of node 1
chosen : Chosen cluster place (newest kept_own) (entry_of 1)
chosen = record { ballot = zero_ballot; test = first_two; majority = two_of_three; each = each }
  where
    each : (voter : ℕ) → first_two voter ≡ true → In (Voted zero_ballot (entry_of 1)) (acts (newest kept_own) voter place)
    each zero h = cc
    each (suc zero) h = inl refl
    each (suc (suc zero)) h = inl refl
    each (suc (suc (suc n))) h = cc

pub not_kept_own : Lawful cluster (newest kept_own) → ⊥
unfolding chosen
not_kept_own l =
    let same = carried_entry cluster (newest kept_own) l place (entry_of 1) (entry_of 2) (ballot_of 2) (op_of 2) 2 1 5 chosen (inl refl) refl in
    let h : ◌≡◌ {A = ℕ} 2 1 = ap (λ (e : Content). (e.leader).0) same in
    omega arith

-- of three voters one accepted
pub not_too_few : Lawful cluster (newest too_few) → ⊥
not_too_few l = go (c.test 1) (c.test 2) (c.test 3) refl refl refl c.majority
  where
    c : Chosen cluster place (newest too_few) (entry_of 1)
    c = decided_chosen cluster place (newest too_few) l (number 1) (entry_of 1) (inl refl)

    go : (s t u : Bool) → c.test 1 ≡ s → c.test 2 ≡ t → c.test 3 ≡ u → 3 < 2 * (cond s 1 0 + (cond t 1 0 + (cond u 1 0 + 0))) → ⊥
    go s true u x y z h = c.each 2 y
    go s false true x y z h = c.each 3 z
    go true false false x y z h = omega arith
    go false false false x y z h = omega arith
