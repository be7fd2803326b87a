-- A tape that is leased, on which a group is valid under an epoch that is held, and an entry settled.
use Rattle.std.proofs.Common.{◌≡◌, inl, inr, ℕ, zero, suc, ◌≤◌, Bool, true, false, List, [], ◌∷◌, ◌++◌, refl, ◌∙◌, subst, sym, arith}
use Rattle.std.specs.List.{list_any}
use Rattle.std.proofs.lemmas.Bool.{false_from_ne_true}
use Rattle.mega_base.specs.declared.names.Position.{Position}
use Rattle.mega_ballot.specs.Order.{zero_ballot}
use Rattle.mega_wire.specs.declared.message.Body.TheVariants.{Accepted, Top}
use Rattle.mega_wal.specs.History.{is_epoch_below}
use Rattle.mega_settled_laws.specs.of_tape_laws.of_promises.of_transcript.declared.item.Item.{Item}
use Rattle.mega_settled_laws.specs.of_tape_laws.of_promises.of_transcript.declared.item.Item.TheVariants.{Counts, Decide, Grant, Invalid, Lapse, Serving, Valid}
use Rattle.mega_settled_laws.specs.of_tape_laws.of_promises.of_transcript.Tape.{newest}
use Rattle.mega_settled_laws.specs.of_tape_laws.of_promises.Items.{number}
use Rattle.mega_settled_laws.specs.of_tape_laws.of_promises.of_rules.Examples.{cluster, entry_of, group, op_of}
use Rattle.mega_settled_laws.specs.of_tape_laws.of_promises.of_rules.Members.{full_nodes}
use Rattle.mega_settled_laws.specs.of_tape_laws.Examples.{all_accept, first, place}
use Rattle.mega_settled_laws.specs.of_tape_laws.Lawful.{Heard}
use Rattle.mega_settled_laws.specs.of_tape_laws.Places.{In}
use Rattle.mega_settled_laws.specs.of_tape_laws.Polls.{ArePolls}
use Rattle.mega_settled_laws.proofs.of_tape_laws.Witnesses.{first_two, two_of_three}
use Rattle.mega_settled_laws.specs.Covering.{IsCoveredSince, WasCovered, voted}
use Rattle.mega_valid_laws.specs.Leases.{AreLeased, IsHeld, MayBeValid, MayServe, NoneAbove}
use Rattle.mega_valid_laws.specs.Examples.{epoch, granted, polling, served, validated}
use Rattle.mega_settled_laws.proofs.of_tape_laws.Settling.{finds, heard}
use Rattle.mega_settled_laws.proofs.of_tape_laws.Polling.{one_vote}
use Rattle.mega_valid_laws.proofs.Orders.{stood_second}

abbrev is_serving : Item → Bool
is_serving (Serving node e) = true
is_serving _ = false

abbrev is_invalid : Item → Bool
is_invalid (Invalid node g n) = true
is_invalid _ = false

abbrev is_lapse : Item → Bool
is_lapse (Lapse cell node e) = true
is_lapse _ = false

abbrev is_above : Item → Bool
is_above (Grant cell node e) = is_epoch_below epoch e
is_above _ = false

none_above : (tape : List Item) → list_any is_above tape ≡ false → NoneAbove tape 2 epoch
none_above tape none cell other g = false_from_ne_true (is_epoch_below epoch other) (λ t. let e : false ≡ true = sym none ∙ finds is_above (Grant cell (number 2) other) tape g t in cc)

-- ---- the tape

-- before the epoch serves, and before the group is valid
abbrev granted_two : List Item
granted_two = Counts (number 2) 2 epoch ∷ Counts (number 2) 1 epoch ∷ granted

abbrev tape_polled : List Item
tape_polled = polling ++ served

-- what came behind the acceptances
abbrev after_settled : List Item
after_settled = Valid (number 2) group first ∷ polling ++ (Serving (number 2) epoch ∷ Counts (number 2) 2 epoch ∷ Counts (number 2) 1 epoch ∷ Grant 2 (number 2) epoch ∷ Grant 1 (number 2) epoch ∷ Decide (number 2) group first (entry_of 1) ∷ [])

serves : MayServe granted_two (number 2) epoch
serves = record {
  once = λ s. let e : false ≡ true = finds is_serving (Serving (number 2) epoch) granted_two s refl in cc;
  alone = refl;
  greatest = none_above granted_two refl;
}

polls_heard : (voter : ℕ) → first_two voter ≡ true → (top : Position) × Heard tape_polled voter (op_of 2) (Top (op_of 2) group top) × (top.0 ≤ 1)
polls_heard zero h = cc
polls_heard (suc zero) h = (first, record { number = 9; sent = inr (inr (inr (inr (inl refl)))); taken = inr (inl refl) }, omega arith)
polls_heard (suc (suc zero)) h = (first, record { number = 10; sent = inr (inr (inl refl)); taken = inl refl }, omega arith)
polls_heard (suc (suc (suc n))) h = cc

valid : MayBeValid cluster tape_polled 2 group first
valid = record {
  epoch = epoch;
  serves = refl;
  op = op_of 2;
  moment = served;
  earlier = record { later = polling; is = refl };
  served = refl;
  fresh = refl;
  test = first_two;
  majority = two_of_three;
  heard = polls_heard;
  decided = inr (entry_of 1, inr (inr (inr (inr (inr (inr (inr (inr (inr (inr (inr (inr (inr (inl refl))))))))))))));
  above = λ n s. absurd (let e : false ≡ true = finds is_invalid (Invalid (number 2) group n) tape_polled (stood_second (Serving (number 2) epoch) (Invalid (number 2) group n) tape_polled s) refl in cc);
}

pub leased : AreLeased cluster validated
leased = (valid, (tt, (tt, (tt, (tt, (tt, (tt, (tt, (tt, (serves, ((inr (inl refl), refl), ((inr (inl refl), refl), (λ now is. cc, (λ now is. cc, (tt, (tt, (tt, (tt, (tt, (tt, (tt, (tt, (tt, (tt, (tt, (tt, (tt, tt)))))))))))))))))))))))))))

-- ---- polls

pub polls : ArePolls validated
polls = (tt, (tt, (tt, (record { asked = record { number = 8; sent = inr (inr (inr (inl refl))); taken = inl refl }; most = one_vote }, (tt, (record { asked = record { number = 7; sent = inr (inr (inl refl)); taken = inl refl }; most = one_vote }, (tt, (tt, (tt, (tt, (tt, (tt, (tt, (tt, (tt, (tt, (tt, (tt, (tt, (tt, (tt, (tt, (tt, (tt, (tt, (tt, (tt, tt)))))))))))))))))))))))))))

-- ---- what is settled

third : Heard (newest all_accept) 3 (op_of 1) (Accepted (op_of 1) group first zero_ballot (entry_of 1))
third = record { number = 6; sent = inr (inr (inl refl)); taken = inl refl }

covered : (node : ℕ) → In node (full_nodes cluster) → IsCoveredSince cluster (newest all_accept) (newest all_accept) (op_of 1) place zero_ballot (entry_of 1) node
covered node (inl same) = subst (λ m. IsCoveredSince cluster (newest all_accept) (newest all_accept) (op_of 1) place zero_ballot (entry_of 1) m) same (voted (heard 1 refl))
covered node (inr (inl same)) = subst (λ m. IsCoveredSince cluster (newest all_accept) (newest all_accept) (op_of 1) place zero_ballot (entry_of 1) m) same (voted (heard 2 refl))
covered node (inr (inr (inl same))) = subst (λ m. IsCoveredSince cluster (newest all_accept) (newest all_accept) (op_of 1) place zero_ballot (entry_of 1) m) same (voted third)
covered node (inr (inr (inr none))) = absurd none

pub settled : WasCovered cluster validated place (entry_of 1)
settled = record {
  op = op_of 1;
  moment = newest all_accept;
  earlier = record { later = after_settled; is = refl };
  settled = record { ballot = zero_ballot; moment = newest all_accept; earlier = record { later = []; is = refl }; test = first_two; majority = two_of_three; heard = heard; covered = covered };
}

-- ---- the epoch

pub held : IsHeld cluster validated 2 epoch
held = record {
  serves = refl;
  counts = omega arith;
  safe = λ cell counts lapsed. let e : false ≡ true = finds is_lapse (Lapse cell (number 2) epoch) validated lapsed refl in cc;
}
