-- An entry that is settled, and one of which a full node is not covered.
use Rattle.std.proofs.Common.{◌≡◌, inl, inr, ℕ, zero, suc, Bool, true, false, List, [], ◌∷◌, refl, ◌∙◌, ap, subst, arith}
use Rattle.std.specs.List.{list_any}
use Rattle.std.proofs.lemmas.Bool.{or_left, or_right}
use Rattle.mega_ballot.specs.declared.ballot.Ballot.{Ballot}
use Rattle.mega_ballot.specs.Order.{zero_ballot}
use Rattle.mega_entry.specs.declared.content.Content.{Content}
use Rattle.mega_wire.specs.declared.message.Body.{Body}
use Rattle.mega_wire.specs.declared.message.Body.TheVariants.{Accepted, Invalidate, Invalidated}
use Rattle.mega_promises.specs.of_transcript.declared.item.Item.{Item}
use Rattle.mega_promises.specs.of_transcript.declared.item.Item.TheVariants.{Sent}
use Rattle.mega_promises.specs.of_transcript.Tape.{newest}
use Rattle.mega_promises.specs.Promises.{Stands}
use Rattle.mega_promises.specs.of_rules.Examples.{cluster, entry_of, group, op_of}
use Rattle.mega_promises.specs.of_rules.Members.{full_nodes}
use Rattle.mega_tape_laws.specs.Lawful.{Heard, Lawful}
use Rattle.mega_tape_laws.specs.Places.{In, Place}
use Rattle.mega_tape_laws.specs.Settled.{IsCovered, IsSettled, SentInvalidate, free, invalidated, voted}
use Rattle.mega_tape_laws.specs.Examples.{all_accept, asked_before, decided_at_zero, first, place, second}
use Rattle.mega_tape_laws.proofs.Witnesses.{first_two, two_accept_lawful, two_of_three}
use Rattle.mega_tape_laws.specs.Lawful.{lowest, spreads}

pub all_lawful : Lawful cluster (newest all_accept)
all_lawful = (tt, (tt, (record { asked = record { number = 5; sent = inr (inl refl); taken = inl refl }; answer = refl }, (tt, (spreads 1 refl (lowest refl refl) (record { number = 2; sent = inr (inr (inr (inr (inl refl)))); taken = inr (inr (inr (inl refl))) }), two_accept_lawful)))))

pub heard : (voter : ℕ) → first_two voter ≡ true → Heard (newest all_accept) voter (op_of 1) (Accepted (op_of 1) group first zero_ballot (entry_of 1))
heard zero h = cc
heard (suc zero) h = record { number = 2; sent = inr (inr (inr (inr (inr (inr (inr (inr (inr (inl refl))))))))); taken = inr (inr (inr (inr (inr (inr (inr (inr (inl refl)))))))) }
heard (suc (suc zero)) h = record { number = 4; sent = inr (inr (inr (inr (inr (inl refl))))); taken = inr (inl refl) }
heard (suc (suc (suc n))) h = cc

third : Heard (newest all_accept) 3 (op_of 1) (Accepted (op_of 1) group first zero_ballot (entry_of 1))
third = record { number = 6; sent = inr (inr (inl refl)); taken = inl refl }

covered : (node : ℕ) → In node (full_nodes cluster) → IsCovered cluster (newest all_accept) (op_of 1) place zero_ballot (entry_of 1) node
covered node (inl same) = subst (λ m. IsCovered cluster (newest all_accept) (op_of 1) place zero_ballot (entry_of 1) m) same (voted (heard 1 refl))
covered node (inr (inl same)) = subst (λ m. IsCovered cluster (newest all_accept) (op_of 1) place zero_ballot (entry_of 1) m) same (voted (heard 2 refl))
covered node (inr (inr (inl same))) = subst (λ m. IsCovered cluster (newest all_accept) (op_of 1) place zero_ballot (entry_of 1) m) same (voted third)
covered node (inr (inr (inr none))) = absurd none

pub settled : IsSettled cluster (newest all_accept) (op_of 1) place (entry_of 1)
settled = record { ballot = zero_ballot; present = refl; test = first_two; majority = two_of_three; heard = heard; covered = covered }

-- what stands on a tape is found on it
pub finds : (test : Item → Bool) (item : Item) (tape : List Item) → Stands item tape → test item ≡ true → list_any test tape ≡ true
finds test item [] s t = absurd s
finds test item (other ∷ before) (inl same) t = or_left (test other) (list_any test before) (ap test same ∙ t)
finds test item (other ∷ before) (inr earlier) t = or_right (test other) (list_any test before) (finds test item before earlier t)

-- node 3 sent nothing, and was told nothing
is_from_three : Item → Bool
is_from_three (Sent k m) = three m.from
  where
    three : ℕ → Bool
    three (suc (suc (suc zero))) = true
    three _ = false
is_from_three _ = false

tells : Body → Bool
tells (Invalidate op g n) = true
tells _ = false

is_told : Item → Bool
is_told (Sent k m) = tells m.body
is_told _ = false

not_heard : (body : Body) → Heard (newest decided_at_zero) 3 (op_of 1) body → ⊥
unfolding is_from_three
not_heard body h = let e : false ≡ true = finds is_from_three (Sent h.number (record { from = 3; to = 1; body = body })) (newest decided_at_zero) h.sent refl in cc

not_told : SentInvalidate (newest decided_at_zero) (op_of 1) place 3 → ⊥
unfolding is_told tells
not_told t = let e : false ≡ true = finds is_told (Sent t.key (record { from = 1; to = 3; body = Invalidate (op_of 1) group first })) (newest decided_at_zero) t.sent refl in cc

not_covered : (b : Ballot) (e : Content) → IsCovered cluster (newest decided_at_zero) (op_of 1) place b e 3 → ⊥
not_covered b e (voted h) = not_heard (Accepted (op_of 1) group first b e) h
not_covered b e (invalidated t h) = not_told t
not_covered b e (free test most t alone each) = not_told t

pub not_settled : IsSettled cluster (newest decided_at_zero) (op_of 1) place (entry_of 1) → ⊥
not_settled s = not_covered s.ballot (entry_of 1) ((s.covered) 3 (inr (inr (inl refl))))

-- ---- an answer to an earlier covering

-- node 3 sent nothing
unheard : (body : Body) → Heard (newest asked_before) 3 (op_of 1) body → ⊥
unfolding is_from_three
unheard body h = let e : false ≡ true = finds is_from_three (Sent h.number (record { from = 3; to = 1; body = body })) (newest asked_before) h.sent refl in cc

-- it was told while position 1 was covered
told_first : SentInvalidate (newest asked_before) (op_of 1) place 3
told_first = record { key = 1; sent = inr (inr (inr (inr (inr (inl refl))))) }

pub not_believed : (b : Ballot) (e : Content) → IsCovered cluster (newest asked_before) (op_of 1) second b e 3 → ⊥
not_believed b e (voted h) = unheard (Accepted (op_of 1) group (record { 0 = 2 }) b e) h
not_believed b e (invalidated t h) = unheard (Invalidated (op_of 1) group (record { 0 = 2 })) h
not_believed b e (free test most t alone each) =
    let same : place ≡ second = alone place told_first in
    let h : ◌≡◌ {A = ℕ} 1 2 = ap (λ (p : Place). p.position.0) same in
    omega arith
