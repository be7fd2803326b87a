-- An operation that proposes its own entry though a promise reports another: no proposal of its is allowed there.
use Rattle.std.proofs.Common.{◌≡◌, inl, inr, ℕ, ◌+◌, ◌*◌, ◌<◌, Bool, true, false, cond, Option, Some, None, refl, sym, ◌∙◌, ap, subst, arith}
use Rattle.std.specs.Prelude.{filter_map}
use Rattle.mega_ballot.specs.declared.ballot.Ballot.{Ballot}
use Rattle.mega_ballot.specs.Order.{zero_ballot}
use Rattle.mega_entry.specs.declared.content.Content.{Content}
use Rattle.mega_wire.specs.declared.message.Body.{Body}
use Rattle.mega_wire.specs.declared.message.Body.TheVariants.{Promise}
use Rattle.mega_wal.specs.Acceptor.{Promised, Vote}
use Rattle.mega_promises.specs.of_transcript.declared.item.Item.{Item}
use Rattle.mega_promises.specs.of_transcript.declared.item.Item.TheVariants.{Sent}
use Rattle.mega_promises.specs.of_transcript.Tape.{newest}
use Rattle.mega_promises.specs.of_rules.Examples.{cluster, entry_of, group, op_of}
use Rattle.mega_tape_laws.specs.Places.{In, Prepares, Proposes, acts}
use Rattle.mega_tape_laws.specs.Lawful.{Carries, Heard, Lawful, MayPropose, Picked, asks, greatest, message, own, picks, repeats, spreads}
use Rattle.mega_tape_laws.specs.Examples.{ballot_of, first, passed_over, place, reported}
use Rattle.mega_tape_laws.proofs.Lists.{kept, some_is}
use Rattle.mega_tape_laws.proofs.Made.{heard_act, promised_here}

-- what the promises of a tape report
abbrev reports_of : Body → Option (Option Vote)
reports_of (Promise op g n b report) = Some report
reports_of _ = None

abbrev reports_in : Item → Option (Option Vote)
reports_in (Sent number m) = reports_of m.body
reports_in _ = None

-- a ballot above zero
not_zero : ballot_of 2 ≡ zero_ballot → ⊥
not_zero h = let e : ◌≡◌ {A = ℕ} 1 0 = ap (λ (b : Ballot). b.round) h in omega arith

not_moved : Some (Prepares (ballot_of 2)) ≡ Some (Proposes (ballot_of 2) (entry_of 2)) → ⊥
not_moved h = cc

apart : entry_of 1 ≡ entry_of 2 → ⊥
apart h = let e : ◌≡◌ {A = ℕ} 1 2 = ap (λ (e : Content). (e.leader).0) h in omega arith

entry_is : (v w : Vote) → Some v ≡ Some w → v.1 ≡ w.1
entry_is v w h = ap (λ (x : Vote). x.1) (some_is v w h)

report_is : (b d : Ballot) (r s : Option Vote) → Promised b r ≡ Promised d s → r ≡ s
report_is b d r s h = cc

something : (v : Vote) → Some v ≡ None → ⊥
something v h = cc

-- no promise on the tape reports node 2's entry
none_of_two : (b : Ballot) → In (Some (b, entry_of 2)) (filter_map reports_in (newest reported)) → ⊥
none_of_two b (inl same) = something (b, entry_of 2) (sym same)
none_of_two b (inr (inl same)) = apart (entry_is (zero_ballot, entry_of 1) (b, entry_of 2) same)
none_of_two b (inr (inr none)) = none

-- what node 1 promised reports node 1's entry, and node 3 promised nothing
first_reports : (report : Option Vote) → Heard (newest reported) 1 (op_of 2) (Promise (op_of 2) group first (ballot_of 2) report) → report ≡ None → ⊥
first_reports report h none = go (heard_act (newest reported) 1 place (message 1 2 (Promise (op_of 2) group first (ballot_of 2) report)) (Promised (ballot_of 2) report) (promised_here 1 place 2 (op_of 2) (ballot_of 2) report) h)
  where
    go : In (Promised (ballot_of 2) report) (acts (newest reported) 1 place) → ⊥
    go (inl same) = something (zero_ballot, entry_of 1) (report_is (ballot_of 2) (ballot_of 2) (Some (zero_ballot, entry_of 1)) report same ∙ none)
    go (inr (inl same)) = cc
    go (inr (inr other)) = other

third_silent : (report : Option Vote) → Heard (newest reported) 3 (op_of 2) (Promise (op_of 2) group first (ballot_of 2) report) → ⊥
third_silent report h = heard_act (newest reported) 3 place (message 3 2 (Promise (op_of 2) group first (ballot_of 2) report)) (Promised (ballot_of 2) report) (promised_here 3 place 2 (op_of 2) (ballot_of 2) report) h

-- node 1 is of each majority that promised
first_counts : (s t : Bool) → 3 < 2 * (cond s 1 0 + (cond t 1 0 + (cond false 1 0 + 0))) → s ≡ true
first_counts true t h = refl
first_counts false true h = absurd (omega arith)
first_counts false false h = absurd (omega arith)

not_picked : Picked cluster (newest reported) (op_of 2) place (ballot_of 2) (entry_of 2) → ⊥
not_picked p = by (p.test 3) refl p.carries
  where
    by : (u : Bool) → p.test 3 ≡ u → Carries p.test p.report (entry_of 2) → ⊥
    by true h carries = third_silent (p.report 3) (p.heard 3 h)
    by false h (own none) =
        let counts = first_counts (p.test 1) (p.test 2) (subst (λ u. 3 < 2 * (cond (p.test 1) 1 0 + (cond (p.test 2) 1 0 + (cond u 1 0 + 0)))) h p.majority) in
        first_reports (p.report 1) (p.heard 1 counts) (none 1 counts)
    by false h (greatest voter b counts says most) =
        let heard = p.heard voter counts in
        none_of_two b (kept reports_in (Sent heard.number (message voter 2 (Promise (op_of 2) group first (ballot_of 2) (p.report voter)))) (Some (b, entry_of 2)) (newest reported) (ap Some says) heard.sent)

not_proposed : MayPropose cluster (newest reported) 2 1 (op_of 2) place (ballot_of 2) (entry_of 2) → ⊥
not_proposed (asks at_zero leads) = not_zero at_zero
not_proposed (spreads leader at_zero leads heard) = not_zero at_zero
not_proposed (picks is_own last picked) = not_picked picked
not_proposed (repeats is_own last) = not_moved last

pub not_passed_over : Lawful cluster (newest passed_over) → ⊥
not_passed_over l = not_proposed l.0
