-- A tape whose entry is an operation's own, and one whose entry is not.
use Rattle.std.proofs.Common.{◌≡◌, Bool, true, false, cond, inl, inr, ℕ, zero, suc, List, [], ◌∷◌, Some, None, Ok, refl, ap, ◌∙◌, arith}
use Rattle.mega_base.specs.declared.names.GroupId.{GroupId}
use Rattle.mega_base.specs.declared.names.OpId.{OpId}
use Rattle.mega_ballot.specs.Order.{zero_ballot}
use Rattle.mega_schema.specs.declared.schema.Schema.{Schema}
use Rattle.mega_entry.specs.declared.content.Enter.{Enter}
use Rattle.mega_wire.specs.declared.message.Body.TheVariants.{Accepted}
use Rattle.mega_handler.specs.Named.{Meanings}
use Rattle.mega_promises.specs.Promises.{handled_by}
use Rattle.mega_entry.specs.declared.content.Content.{Content}
use Rattle.mega_index.specs.Rows.{after, no_rows}
use Rattle.mega_outcome.specs.declared.answer.Done.{Done}
use Rattle.mega_outcome.specs.declared.transaction.Change.TheVariants.{Put}
use Rattle.mega_outcome.specs.declared.transaction.Transaction.{Transaction}
use Rattle.mega_outcome.specs.Outcome.{outcome}
use Rattle.mega_promises.specs.of_transcript.declared.item.Item.{Item}
use Rattle.mega_promises.specs.of_transcript.declared.item.Item.TheVariants.{Begin, Taken}
use Rattle.mega_promises.specs.of_transcript.Tape.{newest}
use Rattle.mega_promises.specs.of_rules.Examples.{cluster, entry_of, group, op_of, schema, user}
use Rattle.mega_tape_laws.specs.Lawful.{Heard, Lawful, asks, lowest, settled, spreads}
use Rattle.mega_tape_laws.specs.Writes.{AreWritten, LawfulWrites, MayWrite, Own, OwnEntry, again, enters, fills, handles, own, runs, runs_all}
use Rattle.mega_tape_laws.specs.Examples.{asks_put, first, not_its_own, place, put_decided, two_accept}
use Rattle.mega_tape_laws.proofs.Witnesses.{first_two, two_of_three}

-- the put of the user, and what comes of it over no rows
abbrev pub transaction : Transaction
transaction = record { group = group; checks = []; reads = []; writes = Put 1 user ∷ []; sends = [] }

abbrev pub done : Done
done = record { replies = []; writes = (entry_of 1).writes; sends = [] }

pub comes : outcome schema transaction (after [] no_rows) ≡ Ok done
unfolding Rattle.mega_base.specs.Codec.number_text
comes = refl

either_leader : (t : Bool) (x y : Content) (z : ℕ) → (x.leader).0 ≡ z → (y.leader).0 ≡ z → ((cond t x y).leader).0 ≡ z
either_leader true x y z h k = h
either_leader false x y z h k = k

handling_leader : (schema : Schema) (handlers : Meanings) (group : GroupId) (op : OpId) (message : Enter) (below : List Content) → ((handled_by schema handlers group op message below).leader).0 ≡ op.node.0
handling_leader s handlers g op message below = either_leader _ _ _ op.node.0 refl refl

-- the tape before node 1 hears of node 2's acceptance
abbrev two_begun : List Item
two_begun = Begin (op_of 1) [] ∷ two_accept

-- ---- lawful

two_heard : (voter : ℕ) → first_two voter ≡ true → Heard (Taken 4 ∷ newest two_begun) voter (op_of 1) (Accepted (op_of 1) group first zero_ballot (entry_of 1))
two_heard zero h = cc
two_heard (suc zero) h = record { number = 2; sent = inr (inr (inr (inr (inr (inl refl))))); taken = inr (inr (inr (inr (inl refl)))) }
two_heard (suc (suc zero)) h = record { number = 4; sent = inr (inl refl); taken = inl refl }
two_heard (suc (suc (suc n))) h = cc

pub lawful : Lawful cluster (newest put_decided)
lawful = (settled (op_of 1) zero_ballot first_two refl two_of_three two_heard, (tt, (record { asked = record { number = 3; sent = inr (inl refl); taken = inl refl }; answer = refl }, (tt, (spreads 1 refl (lowest refl refl) (record { number = 2; sent = inr (inl refl); taken = inl refl }), (tt, (record { asked = record { number = 1; sent = inr (inl refl); taken = inl refl }; answer = refl }, (tt, (asks refl (lowest refl refl), (tt, tt))))))))))

-- ---- written

proposed : OwnEntry cluster.schema asks_put (Begin (op_of 1) [] ∷ []) (op_of 1) group [] (entry_of 1)
proposed = runs transaction done refl refl comes refl

first_own : Own cluster.schema asks_put (Begin (op_of 1) [] ∷ []) 1 (op_of 1) place (entry_of 1)
first_own = record { named = omega arith; below = []; reaches = refl; known = λ k d is. absurd (nothing is); entry = proposed; home = λ q b other i. absurd i }
  where
    nothing : {d : Content} → None ≡ Some d → ⊥
    nothing h = cc

pub written : AreWritten cluster.schema asks_put (newest put_decided)
written = (tt, (tt, (tt, (tt, (again (op_of 1) zero_ballot (inl refl), (tt, (tt, (tt, (own first_own, (λ named. refl, tt))))))))))

pub writes : LawfulWrites cluster asks_put (newest put_decided)
writes = record { lawful = lawful; written = written }

-- ---- an entry that is not the operation's own

pub not_own : LawfulWrites cluster asks_put (newest not_its_own) → ⊥
not_own l = go (l.written).0
  where
    -- each own entry of the operation names its node as leader, and this one another
    ledby : (x : Content) → entry_of 2 ≡ x → (x.leader).0 ≡ 1 → ⊥
    ledby x h k = let same : ◌≡◌ {A = ℕ} 2 1 = ap (λ (e : Content). (e.leader).0) h ∙ k in omega arith

    by : (below : List Content) → OwnEntry cluster.schema asks_put (Begin (op_of 1) [] ∷ []) (op_of 1) group below (entry_of 2) → ⊥
    by below (fills is) = ledby _ is refl
    by below (runs t d asked at found is) = ledby _ is refl
    by below (runs_all ts asked is) = ledby _ is refl
    by below (enters message sent one asked known posted to says fresh is) = ledby _ is refl
    by below (handles message moment asked oldest is) = ledby _ is (handling_leader cluster.schema ((asks_put.handlers) moment) group (op_of 1) message below)

    go : MayWrite cluster.schema asks_put (Begin (op_of 1) [] ∷ []) 1 (op_of 1) place (entry_of 2) → ⊥
    go (again other b i) = i
    go (own o) = by o.below o.entry
