-- After a crash each message was taken and no vote is left undecided, so the three nodes stand calm once more.
use Rattle.std.proofs.Common.{◌≡◌, inl, inr, ℕ, zero, suc, ◌+◌, ◌≤◌, ◌<◌, ◌==◌, ◌||◌, nat_le, not, Bool, true, false, List, [], ◌∷◌, filter_map, find, None, refl, subst, arith}
use Rattle.std.specs.List.{range_with_len}
use Rattle.std.specs.Prelude.{IsSome}
use Rattle.std.proofs.lemmas.Bool.Decides.{nat_tests}
use Rattle.std.proofs.lemmas.Bool.{and_parts, not-false}
use Rattle.mega_wire.specs.declared.message.Message.{Message}
use Rattle.mega_ballot.specs.Order.{zero_ballot}
use Rattle.mega_wal.specs.Acceptor.{Act, Voted, best}
use Rattle.mega_leased_laws.specs.of_run_laws.of_tape_laws.of_promises.of_transcript.declared.item.Item.{Item}
use Rattle.mega_leased_laws.specs.of_run_laws.of_tape_laws.of_promises.of_transcript.declared.item.Item.TheVariants.{Sent}
use Rattle.mega_leased_laws.specs.of_run_laws.of_tape_laws.of_promises.of_transcript.Tape.{is_sent, is_taken, sent_count}
use Rattle.mega_leased_laws.specs.of_run_laws.of_tape_laws.of_promises.of_rules.Clock.{is_up}
use Rattle.mega_leased_laws.specs.of_run_laws.of_tape_laws.of_promises.of_rules.Examples.{cluster, entry_of, group}
use Rattle.mega_leased_laws.specs.of_run_laws.of_tape_laws.of_promises.of_rules.Logs.{decided}
use Rattle.mega_leased_laws.specs.of_run_laws.of_tape_laws.of_promises.of_rules.Members.{is_node}
use Rattle.mega_leased_laws.specs.of_run_laws.of_tape_laws.of_promises.of_rules.Steps.{is_worn}
use Rattle.mega_leased_laws.specs.of_run_laws.of_tape_laws.of_promises.of_rules.Voting.{act_if, acts}
use Rattle.mega_leased_laws.specs.of_run_laws.of_tape_laws.of_promises.Calm.{IsCalm, IsCalmAt, is_for}
use Rattle.mega_leased_laws.specs.of_run_laws.of_tape_laws.of_promises.Messages.{is_dropped}
use Rattle.mega_leased_laws.specs.of_run_laws.of_tape_laws.of_promises.Promises.{Stands}
use Rattle.mega_calm_laws.specs.Examples.{started_again}
use Rattle.mega_calm_laws.proofs.Draining.{none_passes}
use Rattle.mega_calm_laws.proofs.Mail.{number_is}
use Rattle.mega_calm_laws.proofs.Polls.{voter_is_node}
use Rattle.mega_calm_laws.proofs.examples.a_cluster_that_crashed_stands_calm.Goals as goal

most : (k : ℕ) → nat_le (suc (suc (suc (suc k)))) 3 ≡ true → ⊥
most k h = absurd (over (suc (suc (suc (suc k)))) h (omega arith))
  where
    over : (a : ℕ) → nat_le a 3 ≡ true → 4 ≤ a → ⊥
    over a e le = grind (arith, nat_tests)

-- what holds of the nodes 1, 2 and 3 holds of each node
each_node : (P : ℕ → Type 0) → P 1 → P 2 → P 3 → (node : ℕ) → is_node cluster node ≡ true → P node
each_node P one two three zero h = cc
each_node P one two three (suc zero) h = one
each_node P one two three (suc (suc zero)) h = two
each_node P one two three (suc (suc (suc zero))) h = three
each_node P one two three (suc (suc (suc (suc k)))) h = absurd (most k (and_parts (nat_le 1 (suc (suc (suc (suc k))))) (nat_le (suc (suc (suc (suc k)))) 3) h).1)

-- ---- every message was taken

abbrev is_left : List Item → ℕ → Bool
is_left tape n = not (is_taken tape n || is_dropped tape n)

none_left : (tape : List Item) → find (is_left tape) (range_with_len 1 (sent_count tape)) ≡ None → (n : ℕ) → is_sent tape n ≡ true → (is_taken tape n || is_dropped tape n) ≡ true
none_left tape none n sent = not-false (is_taken tape n || is_dropped tape n) (none_passes (is_left tape) 1 (sent_count tape) n none (from n tests.0) (within n (sent_count tape) tests.1))
  where
    tests : (nat_le 1 n ≡ true) × (nat_le n (sent_count tape) ≡ true)
    tests = and_parts (nat_le 1 n) (nat_le n (sent_count tape)) sent

    from : (k : ℕ) → nat_le 1 k ≡ true → 1 ≤ k
    from k e = grind (arith, nat_tests)

    within : (k end : ℕ) → nat_le k end ≡ true → k < 1 + end
    within k end e = grind (arith, nat_tests)

-- ---- each node voted once, for the entry at the first position, and decided it

abbrev votes_if : Bool → List Act
votes_if is_first = filter_map (λ t. act_if t (Voted zero_ballot (entry_of 1))) (is_first ∷ [])

made : (node : ℕ) → is_node cluster node ≡ true → (n : ℕ) → acts (started_again.node node).met group n ≡ votes_if (1 == n)
unfolding Rattle.mega_base.specs.Codec.number_text
made = each_node (λ node. (n : ℕ) → acts (started_again.node node).met group n ≡ votes_if (1 == n)) (λ n. refl) (λ n. refl) (λ n. refl)

first_decided : (node : ℕ) → is_node cluster node ≡ true → IsSome (decided (started_again.node node).met group 1)
unfolding Rattle.mega_base.specs.Codec.number_text
first_decided = each_node (λ node. IsSome (decided (started_again.node node).met group 1)) refl refl refl

votes_decided : (node : ℕ) → is_node cluster node ≡ true → (n : ℕ) → IsSome (best (acts (started_again.node node).met group n)) → IsSome (decided (started_again.node node).met group n)
votes_decided node is n there = go (1 == n) refl (subst (λ votes. IsSome (best votes)) (made node is n) there)
  where
    go : (t : Bool) → (1 == n) ≡ t → IsSome (best (votes_if t)) → IsSome (decided (started_again.node node).met group n)
    go true e some = subst (λ k. IsSome (decided (started_again.node node).met group k)) (number_is 1 n e) (first_decided node is)
    go false e some = let never : false ≡ true = some in cc

calm : IsCalm cluster started_again group
unfolding Rattle.mega_base.specs.Codec.number_text
calm = record {
  all_up = each_node (λ node. is_up (started_again.node node).met ≡ true) refl refl refl;
  no_log_fuse = each_node (λ node. started_again.log_fuse node ≡ None) refl refl refl;
  no_data_fuse = each_node (λ node. started_again.data_fuse node ≡ None) refl refl refl;
  none_open = each_node (λ node. (started_again.node node).open_operations ≡ []) refl refl refl;
  not_worn = each_node (λ node. is_worn (started_again.node node).met ≡ false) refl refl refl;
  quiet = none_left started_again.tape refl;
  accepted_decided = λ node n voter there. (node, voter, votes_decided node (voter_is_node cluster node voter) n there);
}

-- ---- no message speaks of the second position

abbrev speaks : Item → Bool
speaks (Sent k m) = is_for group 2 m.body
speaks _ = false

abbrev some_speaks : List Item → Bool
some_speaks [] = false
some_speaks (item ∷ before) = speaks item || some_speaks before

none_speaks : (tape : List Item) → some_speaks tape ≡ false → (k : ℕ) (m : Message) → Stands (Sent k m) tape → is_for group 2 m.body ≡ false
none_speaks [] none k m s = absurd s
none_speaks (item ∷ before) none k m s = go (speaks item) refl none s (λ rest later. none_speaks before rest k m later)
  where
    go : (t : Bool) → speaks item ≡ t → (t || some_speaks before) ≡ false → Stands (Sent k m) (item ∷ before)
        → (some_speaks before ≡ false → Stands (Sent k m) before → is_for group 2 m.body ≡ false) → is_for group 2 m.body ≡ false
    go true e n s again = cc
    go false e n (inl is) again = subst (λ one. speaks one ≡ false) is e
    go false e n (inr later) again = again n later

calm_at : IsCalmAt cluster started_again group 2
unfolding Rattle.mega_base.specs.Codec.number_text
calm_at = record {
  calm = calm;
  next = refl;
  unspoken = none_speaks started_again.tape refl;
  room = omega arith;
  safe = refl;
}

pub returns-clause-committed : goal.returns-clause-committed
unfolding Rattle.mega_base.specs.Codec.number_text
returns-clause-committed f = refl

pub returns-clause-applied : goal.returns-clause-applied
unfolding Rattle.mega_base.specs.Codec.number_text
returns-clause-applied f = refl

pub returns-clause-crashed : goal.returns-clause-crashed
unfolding Rattle.mega_base.specs.Codec.number_text
returns-clause-crashed f = refl

pub returns-clause-calm : goal.returns-clause-calm
returns-clause-calm f = calm

pub returns-clause-calm_at : goal.returns-clause-calm_at
returns-clause-calm_at f = calm_at

pub returns-clause-read_ends : goal.returns-clause-read_ends
unfolding Rattle.mega_base.specs.Codec.number_text
returns-clause-read_ends f = (refl, refl)

pub returns-clause-fits : goal.returns-clause-fits
unfolding Rattle.mega_base.specs.Codec.number_text
returns-clause-fits f = refl

pub returns-clause-ends : goal.returns-clause-ends
unfolding Rattle.mega_base.specs.Codec.number_text
returns-clause-ends f = (refl, refl)

pub returns-clause-taken : goal.returns-clause-taken
unfolding Rattle.mega_base.specs.Codec.number_text
returns-clause-taken f = refl
