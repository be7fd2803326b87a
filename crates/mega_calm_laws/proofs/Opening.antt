-- Three nodes that have opened stand calm, with room for a first entry.
use Rattle.std.proofs.Common.{◌≡◌, inl, inr, ℕ, zero, suc, ◌≤◌, ◌&&◌, nat_le, Bool, true, false, List, [], ◌∷◌, None, Ok, refl, subst, arith}
use Rattle.std.specs.Prelude.{IsSome}
use Rattle.std.proofs.lemmas.Bool.Decides.{nat_tests}
use Rattle.mega_wire.specs.declared.message.Message.{Message}
use Rattle.mega_index.specs.Rows.{after, no_rows}
use Rattle.mega_outcome.specs.declared.request.Request.TheVariants.{Txn}
use Rattle.mega_outcome.specs.Outcome.{outcome}
use Rattle.mega_wal.specs.Acceptor.{Act, best}
use Rattle.mega_leased_laws.specs.of_run_laws.of_tape_laws.of_promises.of_transcript.declared.item.Item.{Item}
use Rattle.mega_leased_laws.specs.of_run_laws.of_tape_laws.of_promises.of_transcript.declared.item.Item.TheVariants.{Sent}
use Rattle.mega_leased_laws.specs.of_run_laws.of_tape_laws.of_promises.of_rules.Clock.{is_up}
use Rattle.mega_leased_laws.specs.of_run_laws.of_tape_laws.of_promises.of_rules.Examples.{cluster, entry_of, group}
use Rattle.mega_leased_laws.specs.of_run_laws.of_tape_laws.of_promises.of_rules.Members.{is_node}
use Rattle.mega_leased_laws.specs.of_run_laws.of_tape_laws.of_promises.of_rules.Steps.{is_worn}
use Rattle.mega_leased_laws.specs.of_run_laws.of_tape_laws.of_promises.of_rules.Voting.{acts}
use Rattle.mega_leased_laws.specs.of_run_laws.of_tape_laws.of_promises.Calm.{Ends, IsCalm, IsCalmAt}
use Rattle.mega_leased_laws.specs.of_run_laws.of_tape_laws.of_promises.Promises.{Stands, log_of}
use Rattle.mega_leased_laws.specs.of_run_laws.of_tape_laws.of_promises.Runs.{by_fuse}
use Rattle.mega_leased_laws.specs.of_run_laws.Justified.{Each}
use Rattle.mega_calm_laws.specs.Examples.{opened, put_user}
use Rattle.mega_leased_laws.proofs.of_run_laws.Shown.{IsPlain}
use Rattle.mega_calm_laws.proofs.Polls.{voter_is_node}

most : (k : ℕ) → nat_le (suc (suc (suc (suc k)))) 3 ≡ true → ⊥
most k h = absurd (over (suc (suc (suc (suc k)))) h (omega arith))
  where
    over : (a : ℕ) → nat_le a 3 ≡ true → 4 ≤ a → ⊥
    over a e le = grind (arith, nat_tests)

second : (a b : Bool) → (a && b) ≡ true → b ≡ true
second true b h = h
second false b h = cc

-- what holds of the nodes 1, 2 and 3 holds of each node
each_node : (P : ℕ → Type 0) → P 1 → P 2 → P 3 → (node : ℕ) → is_node cluster node ≡ true → P node
each_node P one two three zero h = cc
each_node P one two three (suc zero) h = one
each_node P one two three (suc (suc zero)) h = two
each_node P one two three (suc (suc (suc zero))) h = three
each_node P one two three (suc (suc (suc (suc k)))) h = absurd (most k (second (nat_le 1 (suc (suc (suc (suc k))))) (nat_le (suc (suc (suc (suc k)))) 3) h))

none_sent : (n : ℕ) → (nat_le 1 n && nat_le n 0) ≡ true → ⊥
none_sent n h = grind (arith, nat_tests)

none_made : (node : ℕ) → is_node cluster node ≡ true → (n : ℕ) → acts (opened.node node).met group n ≡ []
none_made = each_node (λ node. (n : ℕ) → acts (opened.node node).met group n ≡ []) (λ n. refl) (λ n. refl) (λ n. refl)

none_best : (node n : ℕ) → acts (opened.node node).met group n ≡ [] → IsSome (best (acts (opened.node node).met group n)) → ⊥
none_best node n none h = let never = subst_best (acts (opened.node node).met group n) none h in cc
  where
    subst_best : (made : List Act) → made ≡ [] → IsSome (best made) → false ≡ true
    subst_best [] e k = k
    subst_best (act ∷ made) e k = cc

pub opened_calm : IsCalm cluster opened group
opened_calm = record {
  all_up = each_node (λ node. is_up (opened.node node).met ≡ true) refl refl refl;
  no_log_fuse = each_node (λ node. opened.log_fuse node ≡ None) refl refl refl;
  no_data_fuse = each_node (λ node. opened.data_fuse node ≡ None) refl refl refl;
  none_open = each_node (λ node. (opened.node node).open_operations ≡ []) refl refl refl;
  not_worn = each_node (λ node. is_worn (opened.node node).met ≡ false) refl refl refl;
  quiet = λ n sent. absurd (none_sent n sent);
  accepted_decided = λ node n voter there. absurd (none_best node n (none_made node (voter_is_node cluster node voter) n) there);
}

no_message : (tape : List Item) (k : ℕ) (m : Message) → Each IsPlain tape → Stands (Sent k m) tape → ⊥
no_message [] k m plain s = absurd s
no_message (item ∷ before) k m plain (inl e) = subst IsPlain e plain.0
no_message (item ∷ before) k m plain (inr s) = no_message before k m plain.1 s

pub opened_calm_at : IsCalmAt cluster opened group 1
opened_calm_at = record {
  calm = opened_calm;
  next = refl;
  unspoken = λ k m s. absurd (no_message opened.tape k m (tt, (tt, (tt, tt))) s);
  room = omega arith;
  safe = refl;
}

pub put_ends : Ends cluster [] by_fuse opened 1 (Txn put_user) [] 50
unfolding Rattle.mega_base.specs.Codec.number_text
put_ends = (refl, refl)

pub put_taken : outcome cluster.schema put_user (after (log_of opened.tape group) no_rows) ≡ Ok (record { writes = (entry_of 1).writes; sends = []; replies = [] })
unfolding Rattle.mega_base.specs.Codec.number_text
put_taken = refl
