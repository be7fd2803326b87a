-- Two operations at one position, of which one is committed and the other is told so: a tape on which each answer has its cause.
use Rattle.std.proofs.Common.{◌≡◌, ◌≢◌, inl, inr, ℕ, zero, suc, Bool, true, false, List, [], ◌∷◌, Some, None, refl, ap, subst, arith}
use Rattle.mega_base.specs.declared.names.OpId.{OpId}
use Rattle.mega_ballot.specs.Order.{zero_ballot}
use Rattle.mega_entry.specs.declared.content.Content.{Content}
use Rattle.mega_wire.specs.declared.message.Body.TheVariants.{Accepted, Decide as Tell}
use Rattle.mega_outcome.specs.declared.answer.Answer.TheVariants.{Committed}
use Rattle.mega_promises.specs.of_transcript.declared.item.Item.{Item}
use Rattle.mega_promises.specs.of_transcript.declared.item.Item.TheVariants.{Answer, Begin, Decide, Sent, Taken}
use Rattle.mega_promises.specs.of_transcript.Tape.{newest}
use Rattle.mega_promises.specs.Items.{number}
use Rattle.mega_outcome.specs.declared.request.Request.TheVariants.{Txn}
use Rattle.mega_promises.specs.Promises.{Stands}
use Rattle.mega_promises.specs.of_rules.Examples.{accept_for, cluster, entry_of, from_to, group, op_of}
use Rattle.mega_tape_laws.specs.Lawful.{Heard, Lawful, an_accept, asks, lowest, settled, spreads, told}
use Rattle.mega_tape_laws.specs.Writes.{AreWritten, Own, again, own, runs}
use Rattle.mega_tape_laws.specs.Answers.{AreAnswered, IsDoomed, LawfulAnswers, Lost, MayCommit, MayConflict, of_transaction}
use Rattle.mega_tape_laws.specs.Examples.{asks_put, first, place, rivals, rivals_meet, told_too_soon}
use Rattle.mega_tape_laws.proofs.Ballots.{clash}
use Rattle.mega_tape_laws.proofs.Lists.{some_is}
use Rattle.mega_tape_laws.proofs.Origins.{one_home}
use Rattle.mega_tape_laws.proofs.Witnesses.{first_two, two_of_three}
use Rattle.mega_tape_laws.proofs.Writing.{comes, done, transaction}

-- ---- lawful

heard : (voter : ℕ) → first_two voter ≡ true → Heard (newest rivals_meet) voter (op_of 1) (Accepted (op_of 1) group first zero_ballot (entry_of 1))
heard zero h = cc
heard (suc zero) h = record { number = 3; sent = inr (inr (inr (inr (inr (inr (inr (inl refl))))))); taken = inr (inr (inr (inr (inl refl)))) }
heard (suc (suc zero)) h = record { number = 6; sent = inr (inl refl); taken = inl refl }
heard (suc (suc (suc n))) h = cc

met : Lawful cluster (newest rivals_meet)
met = (tt, (record { asked = record { number = 5; sent = inr (inl refl); taken = inl refl }; answer = refl }, (tt, (spreads 1 refl (lowest refl refl) (record { number = 3; sent = inr (inr (inr (inl refl))); taken = inl refl }), (tt, (an_accept (entry_of 2) (record { number = 2; sent = inr (inr (inr (inl refl))); taken = inl refl }) refl, (tt, (record { asked = record { number = 1; sent = inr (inr (inl refl)); taken = inl refl }; answer = refl }, (tt, (asks refl (lowest refl refl), (asks refl (lowest refl refl), (tt, (tt, tt)))))))))))))

lawful : Lawful cluster (newest rivals)
lawful = (tt, (told 1 (record { number = 7; sent = inr (inl refl); taken = inl refl }), (tt, (inr (inl refl), (tt, (settled (op_of 1) zero_ballot first_two refl two_of_three heard, met))))))

-- ---- written

nothing : (d : Content) → None ≡ Some d → ⊥
nothing d h = cc

begun : List Item
begun = Begin (op_of 2) [] ∷ Begin (op_of 1) [] ∷ []

first_own : Own cluster.schema asks_put begun 1 (op_of 1) place (entry_of 1)
unfolding begun
first_own = record { named = omega arith; below = []; reaches = refl; known = λ k d is. absurd (nothing d is); entry = runs transaction done refl refl comes refl; home = λ q b other i. absurd i }

second_own : Own cluster.schema asks_put (Sent 1 (accept_for 1 1 1 zero_ballot (entry_of 1)) ∷ begun) 2 (op_of 2) place (entry_of 2)
unfolding begun
second_own = record { named = omega arith; below = []; reaches = refl; known = λ k d is. absurd (nothing d is); entry = runs transaction done refl refl comes refl; home = λ q b other i. absurd i }

written : AreWritten cluster.schema asks_put (newest rivals)
unfolding begun
written = (tt, (tt, (tt, (tt, (tt, (tt, (tt, (tt, (tt, (again (op_of 1) zero_ballot (inl refl), (tt, (tt, (tt, (tt, (tt, (own second_own, (own first_own, (λ named. refl, (λ named. refl, tt)))))))))))))))))))

-- ---- answered

silent : {X : Type 0} → false ≡ true → X
silent h = absurd (clash false h refl)

decided : List Item
decided = Decide (number 1) group first (entry_of 1) ∷ newest rivals_meet

commits : MayCommit cluster.schema asks_put decided (op_of 1) first []
unfolding decided
commits = record {
  group = group;
  entry = entry_of 1;
  stands = inl refl;
  is_own = refl;
  replied = of_transaction transaction [] done refl (record { known = λ k d is. absurd (nothing d is); reaches = refl }) comes refl;
}

learned : List Item
learned = Decide (number 2) group first (entry_of 1) ∷ Taken 7 ∷ Sent 7 (from_to 1 2 (Tell group first (entry_of 1))) ∷ Answer (op_of 1) (Committed first []) ∷ decided

apart : Some (op_of 1) ≢ Some (op_of 2)
apart h = let same : ◌≡◌ {A = ℕ} 1 2 = ap (λ (o : OpId). o.node.0) (some_is (op_of 1) (op_of 2) h) in omega arith

conflicts : MayConflict asks_put learned (op_of 2) first (Some (op_of 1))
unfolding learned decided
conflicts = record { request = Txn transaction; asked = refl; group = group; home = λ writes. refl; entry = entry_of 1; stands = inl refl; names = refl; others = apart }

learned_written : AreWritten cluster.schema asks_put learned
unfolding learned decided
learned_written = written.1

doomed : IsDoomed learned (op_of 2)
unfolding learned decided
doomed p b e i id =
    subst (Lost learned (op_of 2)) (one_home cluster.schema asks_put learned learned_written (op_of 2) place p zero_ballot b (entry_of 2) e (inl refl) refl i id)
    (record { node = number 2; entry = entry_of 1; stands = inl refl; other = apart })

answered : AreAnswered cluster.schema asks_put (newest rivals)
unfolding learned decided
answered = ((conflicts, (λ h. doomed, inr (omega arith))), (tt, (tt, (tt, ((commits, (λ h. absurd (clash false h refl), inr (omega arith))), (tt, (tt, (tt, (tt, (silent, (tt, (tt, (tt, (tt, (tt, (silent, (silent, (tt, (tt, tt)))))))))))))))))))

pub answers : LawfulAnswers cluster asks_put (newest rivals)
answers = record { writes = record { lawful = lawful; written = written }; answered = answered }

-- ---- an answer without its cause

-- nothing is decided by then
none_decided : (m : MayCommit cluster.schema asks_put (Sent 1 (accept_for 1 1 1 zero_ballot (entry_of 1)) ∷ Begin (op_of 1) [] ∷ []) (op_of 1) first []) → ⊥
none_decided m = go m.stands
  where
    decides : Item → Bool
    decides (Decide node g n e) = true
    decides _ = false

    go : Stands (Decide (number 1) m.group first m.entry) (Sent 1 (accept_for 1 1 1 zero_ballot (entry_of 1)) ∷ Begin (op_of 1) [] ∷ []) → ⊥
    go (inl same) = clash false (ap decides same) refl
    go (inr (inl same)) = clash false (ap decides same) refl
    go (inr (inr none)) = none

pub not_told : LawfulAnswers cluster asks_put (newest told_too_soon) → ⊥
not_told l = none_decided ((l.answered).0).0
