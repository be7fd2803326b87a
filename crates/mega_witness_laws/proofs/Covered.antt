-- A full node that is not covered, or by what cells said while an earlier position was covered.
use Rattle.std.proofs.Common.{◌≡◌, inl, inr, ℕ, zero, suc, ◌<◌, ◌==◌, ◌&&◌, Bool, true, false, not, List, [], ◌∷◌, ◌++◌, Some, None, refl, ap, sym, subst, arith}
use Rattle.std.specs.List.{list_any}
use Rattle.std.proofs.lemmas.Bool.{and_from}
use Rattle.mega_base.specs.declared.names.NodeId.{NodeId}
use Rattle.mega_base.specs.declared.names.OpId.{OpId}
use Rattle.mega_ballot.specs.declared.ballot.Ballot.{Ballot}
use Rattle.mega_entry.specs.declared.content.Content.{Content}
use Rattle.mega_wire.specs.declared.message.Body.{Body}
use Rattle.mega_wire.specs.declared.message.Body.TheVariants.{Accepted, Invalidated, Unheld}
use Rattle.mega_outcome.specs.declared.answer.Answer.{Answer as AnswerValue}
use Rattle.mega_outcome.specs.declared.answer.Answer.TheVariants.{Batched, Committed}
use Rattle.mega_valid_laws.specs.of_settled_laws.of_tape_laws.of_transcript.declared.item.Item.{Item}
use Rattle.mega_valid_laws.specs.of_settled_laws.of_tape_laws.of_transcript.declared.item.Item.TheVariants.{Answer, Decide, Sent}
use Rattle.mega_valid_laws.specs.of_settled_laws.of_tape_laws.of_transcript.Tape.{newest}
use Rattle.mega_valid_laws.specs.of_settled_laws.of_tape_laws.of_promises.Items.{number}
use Rattle.mega_valid_laws.specs.of_settled_laws.of_tape_laws.of_promises.Moments.{StoodOn}
use Rattle.mega_valid_laws.specs.of_settled_laws.of_tape_laws.of_promises.Promises.{Stands}
use Rattle.mega_valid_laws.specs.of_settled_laws.of_tape_laws.Answers.{AreAnswered, LawfulAnswers, MayCommit, of_transaction}
use Rattle.mega_valid_laws.specs.of_settled_laws.of_tape_laws.Examples.{asks_put, ballot_of, first, place, put_decided, second}
use Rattle.mega_valid_laws.specs.of_settled_laws.of_tape_laws.Lawful.{Heard, message}
use Rattle.mega_valid_laws.specs.of_settled_laws.of_tape_laws.Places.{In, Place}
use Rattle.mega_valid_laws.specs.of_settled_laws.of_tape_laws.Settled.{IsCellMajority}
use Rattle.mega_valid_laws.specs.of_settled_laws.of_tape_laws.of_rules.Examples.{cluster, entry_of, group, op_of}
use Rattle.mega_valid_laws.specs.of_settled_laws.of_tape_laws.of_rules.Members.{full_nodes}
use Rattle.mega_valid_laws.proofs.of_settled_laws.of_tape_laws.Majorities.{Shared, meet}
use Rattle.mega_valid_laws.proofs.of_settled_laws.of_tape_laws.Witnesses.{first_two, two_of_three}
use Rattle.mega_valid_laws.proofs.of_settled_laws.of_tape_laws.Writing as put
use Rattle.mega_valid_laws.specs.of_settled_laws.Covering.{AreSettled, Earlier, HasSettled, IsCoveredSince, OwnSettled, WasCovered, free, has_asked_about, invalidated, voted}
use Rattle.mega_valid_laws.proofs.of_settled_laws.Tapes.{earlier_stood, now_is, then_later, stood_behind}
use Rattle.mega_valid_laws.proofs.Orders.{cells_meet}
use Rattle.mega_witness_laws.specs.Tapes.{accepted_first, accepted_second, cells_answer, committed_uncovered, covered_before, first_covered}
use Rattle.mega_valid_laws.proofs.of_settled_laws.of_tape_laws.Ballots.{clash}
use Rattle.mega_witness_laws.proofs.Shown.{AllOf, finds, no_moment, none_stands, stands_of}

-- ---- what no node and no cell says

abbrev is_from_three : Item → Bool
is_from_three (Sent k m) = m.from == 3
is_from_three _ = false

abbrev says_free : Item → Bool
says_free (Sent k m) = by m.body
  where
    by : Body → Bool
    by (Unheld op cell node) = true
    by _ = false
says_free _ = false

-- where node 3 sends nothing, and no cell says that it holds nothing, node 3 is not covered
none_covered : (tape : List Item) → list_any is_from_three tape ≡ false → list_any says_free tape ≡ false → (p : Place) (e : Content) → WasCovered cluster tape p e → ⊥
none_covered tape still full p e w = go w.op w.moment w.earlier w.settled
  where
    go : (op : OpId) (moment : List Item) → Earlier moment tape → HasSettled cluster moment op p e → ⊥
    go op moment earlier s = by ((s.covered) 3 (inr (inr (inl refl))))
      where
        by : IsCoveredSince cluster s.moment moment op p s.ballot e 3 → ⊥
        by (voted h) = none_stands is_from_three _ tape still refl (earlier_stood moment tape earlier (Sent h.number (message 3 op.node.0 (Accepted op p.group p.position s.ballot e))) h.sent)
        by (invalidated h) = none_stands is_from_three _ tape still refl (earlier_stood moment tape earlier (Sent h.number (message 3 op.node.0 (Invalidated op p.group p.position))) h.sent)
        by (free test most fresh each) = cell (cells_meet cluster test test most most)
          where
            cell : Shared test test → ⊥
            cell shared =
                let h = each shared.node shared.first in
                none_stands says_free _ tape full refl (earlier_stood moment tape earlier (Sent h.number (message shared.node op.node.0 (Unheld op shared.node (number 3)))) h.sent)

-- ---- an operation that is committed while node 3 is not covered

pub not_own : OwnSettled cluster (newest put_decided) (op_of 1) first → ⊥
not_own o = none_covered (newest put_decided) refl refl (record { group = o.group; position = first }) o.entry o.covered

pub not_settled : AreSettled cluster (newest committed_uncovered) → ⊥
not_settled s = not_own ((s.committed) (op_of 1) first [] (newest put_decided) (record { later = []; is = refl }))

nothing : {d : Content} → None ≡ Some d → ⊥
nothing h = cc

silent : {X : Type 0} → false ≡ true → X
silent h = absurd (clash true refl (sym h))

commits : MayCommit cluster.schema asks_put (newest put_decided) (op_of 1) first []
commits = record {
  group = group;
  entry = entry_of 1;
  stands = inl refl;
  is_own = refl;
  replied = of_transaction put.transaction [] put.done refl (record { known = λ k d is. absurd (nothing is); reaches = refl }) put.comes refl;
}

answered : AreAnswered cluster.schema asks_put (newest committed_uncovered)
answered = ((commits, (λ h. silent h, inr (omega arith))), (tt, (tt, (tt, (tt, (silent, (tt, (tt, (tt, (silent, (tt, tt)))))))))))

pub answers : LawfulAnswers cluster asks_put (newest committed_uncovered)
answers = record { writes = record { lawful = (tt, put.lawful); written = (tt, put.written) }; answered = answered }

-- ---- position 1 is settled by what the cells say

abbrev asked_first : List Item
asked_first = accepted_first ++ cells_answer

first_heard : (voter : ℕ) → first_two voter ≡ true → Heard (newest accepted_first) voter (op_of 1) (Accepted (op_of 1) group first (ballot_of 1) (entry_of 2))
first_heard zero h = cc
first_heard (suc zero) h = record { number = 3; sent = inr (inr (inr (inr (inl refl)))); taken = inr (inl refl) }
first_heard (suc (suc zero)) h = record { number = 4; sent = inr (inr (inl refl)); taken = inl refl }
first_heard (suc (suc (suc n))) h = cc

-- that was before the cells answered
asked_behind : Earlier (newest accepted_first) (newest asked_first)
asked_behind = record { later = newest cells_answer; is = refl }

then_heard : (voter : ℕ) (body : Body) → Heard (newest accepted_first) voter (op_of 1) body → Heard (newest asked_first) voter (op_of 1) body
then_heard voter body h = record {
  number = h.number;
  sent = earlier_stood (newest accepted_first) (newest asked_first) asked_behind _ h.sent;
  taken = earlier_stood (newest accepted_first) (newest asked_first) asked_behind _ h.taken;
}

cells_heard : (cell : ℕ) → first_two cell ≡ true → Heard (newest asked_first) cell (op_of 1) (Unheld (op_of 1) cell (number 3))
cells_heard zero h = cc
cells_heard (suc zero) h = record { number = 8; sent = inr (inr (inr (inr (inl refl)))); taken = inr (inl refl) }
cells_heard (suc (suc zero)) h = record { number = 9; sent = inr (inr (inl refl)); taken = inl refl }
cells_heard (suc (suc (suc n))) h = cc

two_cells : IsCellMajority cluster first_two
two_cells = let h : 3 < 4 = omega arith in h

abbrev Covers : ℕ → Type 0
Covers node = IsCoveredSince cluster (newest accepted_first) (newest asked_first) (op_of 1) place (ballot_of 1) (entry_of 2) node

covers : (node : ℕ) → In node (full_nodes cluster) → Covers node
covers node (inl same) = subst Covers same (voted (then_heard 1 (Accepted (op_of 1) group first (ballot_of 1) (entry_of 2)) (first_heard 1 refl)))
covers node (inr (inl same)) = subst Covers same (voted (then_heard 2 (Accepted (op_of 1) group first (ballot_of 1) (entry_of 2)) (first_heard 2 refl)))
covers node (inr (inr (inl same))) = subst Covers same (free first_two two_cells refl cells_heard)
covers node (inr (inr (inr none))) = absurd none

first_settled : WasCovered cluster (newest asked_first) place (entry_of 2)
first_settled = record {
  op = op_of 1;
  moment = newest asked_first;
  earlier = now_is (newest asked_first);
  settled = record { ballot = ballot_of 1; moment = newest accepted_first; earlier = asked_behind; test = first_two; majority = two_of_three; heard = first_heard; covered = covers };
}

-- no other item is a decision or an answer
abbrev is_decision : Item → Bool
is_decision (Decide node g n e) = true
is_decision _ = false

abbrev is_answer : Item → Bool
is_answer (Answer op answer) = true
is_answer _ = false

abbrev head_of : List Item → Item
head_of [] = Decide (number 1) group first (entry_of 2)
head_of (item ∷ before) = item

abbrev tail_of : List Item → List Item
tail_of [] = []
tail_of (item ∷ before) = before

abbrev place_of : Item → Place
place_of (Decide node g n e) = record { group = g; position = n }
place_of _ = place

abbrev entry_in : Item → Content
entry_in (Decide node g n e) = e
entry_in _ = entry_of 2

abbrev decides_at : NodeId → Place → Content → Item
decides_at node p e = Decide node p.group p.position e

decisions : (node : NodeId) (p : Place) (e : Content) (before : List Item) → StoodOn (decides_at node p e) before (newest first_covered) → WasCovered cluster before p e
decisions node p e before stood = by stood.later stood.is
  where
    by : (later : List Item) → newest first_covered ≡ later ++ decides_at node p e ∷ before → WasCovered cluster before p e
    by [] is = coe 0 1 (i. WasCovered cluster (tail_of (is i)) (place_of (head_of (is i))) (entry_in (head_of (is i)))) first_settled
    by (one ∷ later) is = absurd (none_stands is_decision (decides_at node p e) (newest asked_first) refl refl
        (subst (Stands (decides_at node p e)) (sym (ap tail_of is)) (stood_behind later (decides_at node p e ∷ before) (decides_at node p e) (inl refl))))

no_answer : {X : Type 0} (op : OpId) (answer : AnswerValue) (before : List Item) → StoodOn (Answer op answer) before (newest first_covered) → X
no_answer op answer before stood = absurd (none_stands is_answer (Answer op answer) (newest first_covered) refl refl (subst (Stands (Answer op answer)) (sym stood.is) (stood_behind stood.later (Answer op answer ∷ before) (Answer op answer) (inl refl))))

pub settled_first : AreSettled cluster (newest first_covered)
settled_first = record {
  decisions = decisions;
  committed = λ op n replies before stood. no_answer op (Committed n replies) before stood;
  batched = λ op n results before stood. no_answer op (Batched n results) before stood;
}

-- ---- position 2 is not

abbrev asked_second : List Item
asked_second = first_covered ++ accepted_second

-- the operation whose proposal is accepted
abbrev accepts_for : Item → OpId
accepts_for (Sent k m) = by m.body
  where
    by : Body → OpId
    by (Accepted op g n b e) = op
    by _ = op_of 1
accepts_for _ = op_of 1

all_of_one : AllOf accepts_for (op_of 1) (newest asked_second)
all_of_one = (refl, (refl, (refl, (refl, (refl, (refl, (refl, (refl, (refl, (refl, (refl, (refl, (refl, (refl, (refl, (refl, (refl, (refl, (refl, (refl, (refl, (refl, (refl, (refl, (refl, (refl, (refl, tt)))))))))))))))))))))))))))

-- a voter accepts at position 2
abbrev accepts_second : Item → Bool
accepts_second (Sent k m) = by m.body
  where
    by : Body → Bool
    by (Accepted op g n b e) = n.0 == 2
    by _ = false
accepts_second _ = false

-- one did, and no cell was asked about node 3
abbrev unasked : List Item → Bool
unasked tape = list_any accepts_second tape && not (has_asked_about tape (op_of 1) 3)

abbrev accepted_at : ℕ → ℕ → OpId → Ballot → Item
accepted_at key voter op b = Sent key (message voter op.node.0 (Accepted op group second.position b (entry_of 1)))

asked_before : (op : OpId) (moment : List Item) (b : Ballot) (voter : ℕ) → Earlier moment (newest asked_second) → Heard moment voter op (Accepted op group second.position b (entry_of 1)) → has_asked_about moment op 3 ≡ false → ⊥
asked_before op moment b voter earlier h fresh = no_moment unasked moment (newest asked_second) refl earlier
    (and_from (list_any accepts_second moment) (not (has_asked_about moment (op_of 1) 3)) (finds accepts_second (accepted_at h.number voter op b) moment h.sent refl)
    (ap not (subst (λ (o : OpId). has_asked_about moment o 3 ≡ false) own fresh)))
  where
    own : op ≡ op_of 1
    own = stands_of accepts_for (op_of 1) (accepted_at h.number voter op b) (newest asked_second) all_of_one (earlier_stood moment (newest asked_second) earlier (accepted_at h.number voter op b) h.sent)

not_covered : WasCovered cluster (newest asked_second) second (entry_of 1) → ⊥
not_covered w = go w.op w.moment w.earlier w.settled
  where
    go : (op : OpId) (moment : List Item) → Earlier moment (newest asked_second) → HasSettled cluster moment op second (entry_of 1) → ⊥
    go op moment earlier s = by ((s.covered) 3 (inr (inr (inl refl))))
      where
        by : IsCoveredSince cluster s.moment moment op second s.ballot (entry_of 1) 3 → ⊥
        by (voted h) = none_stands is_from_three _ (newest asked_second) refl refl (earlier_stood moment (newest asked_second) earlier (accepted_at h.number 3 op s.ballot) h.sent)
        by (invalidated h) = none_stands is_from_three _ (newest asked_second) refl refl (earlier_stood moment (newest asked_second) earlier (Sent h.number (message 3 op.node.0 (Invalidated op group second.position))) h.sent)
        by (free test most fresh each) = voter (meet cluster s.test first_two s.majority two_of_three)
          where
            voter : Shared s.test first_two → ⊥
            voter shared = asked_before op s.moment s.ballot shared.node (then_later s.moment moment (newest asked_second) s.earlier earlier) ((s.heard) shared.node shared.first) fresh

pub not_settled_second : AreSettled cluster (newest covered_before) → ⊥
not_settled_second s = not_covered ((s.decisions) (number 1) second (entry_of 1) (newest asked_second) (record { later = []; is = refl }))
