-- What a node has applied is at or below the greatest position that it accepted or decided.
use Rattle.std.proofs.Common.{◌≡◌, ◌⊎◌, inl, inr, ℕ, ◌-◌, ◌+◌, max, ◌≤◌, ◌<◌, ◌==◌, ◌&&◌, nat_le, Bool, true, false, cond, List, [], ◌∷◌, length, Some, refl, arith, suc}
use Rattle.std.proofs.lemmas.Bool.{cases_lt}
use Rattle.std.proofs.lemmas.Bool.Decides.{nat_tests}
use Rattle.mega_base.specs.declared.names.GroupId.{GroupId}
use Rattle.mega_entry.specs.declared.content.Content.{Content}
use Rattle.mega_replica.specs.Applying.{applied}
use Rattle.mega_wal.specs.Same.{same_group}
use Rattle.mega_fresh_laws.specs.of_leased_laws.of_settled_laws.of_run_laws.of_tape_laws.of_promises.of_rules.Logs.{accepted_at, decided, first_of, log_of, top_of}
use Rattle.mega_fresh_laws.specs.of_leased_laws.of_settled_laws.of_run_laws.of_tape_laws.of_promises.of_rules.Met.{Met, Decides, Sends, Unsends}
use Rattle.mega_fresh_laws.specs.of_leased_laws.of_settled_laws.of_run_laws.of_tape_laws.of_promises.of_rules.Steps.{applied_at}
use Rattle.mega_fresh_laws.proofs.of_leased_laws.of_settled_laws.of_run_laws.Prefixes.{prefix_decided}
use Rattle.mega_fresh_laws.proofs.of_leased_laws.Tops.{then_most}

pub applied_least : (log : List Content) (stored : ℕ) → applied log stored ≤ length log
applied_least [] stored = omega arith
applied_least (entry ∷ log) stored = by (nat_le (length entry.writes) stored) (applied_least log (stored - length entry.writes))
  where
    by : (t : Bool) → applied log (stored - length entry.writes) ≤ length log → cond t (1 + applied log (stored - length entry.writes)) 0 ≤ suc (length log)
    by true le = omega (arith, le)
    by false le = omega arith

above : (a b : ℕ) → b ≤ max a b
above a b = omega arith

decided_top : (met : List Met) (g : GroupId) (n : ℕ) (e : Content) → decided met g n ≡ Some e → n ≤ top_of met g
decided_top [] g n e h = absurd (cc)
decided_top (Decides group position entry ∷ before) g n e h = by (same_group group g) (position == n) refl h (λ k. decided_top before g n e k)
  where
    here : (a b m : ℕ) → (a == m) ≡ true → m ≤ max a b
    here a b m is = grind (arith, nat_tests)

    by : (t u : Bool) → (position == n) ≡ u → cond (t && u) (first_of (decided before g n) entry) (decided before g n) ≡ Some e → (decided before g n ≡ Some e → n ≤ top_of before g) → n ≤ cond t (max position (top_of before g)) (top_of before g)
    by true true is k again = here position (top_of before g) n is
    by true false is k again = then_most n (top_of before g) (max position (top_of before g)) (again k) (above position (top_of before g))
    by false u is k again = again k
decided_top (Sends m ∷ before) g n e h = then_most n (top_of before g) (max (accepted_at g m.body) (top_of before g)) (decided_top before g n e h) (above (accepted_at g m.body) (top_of before g))
decided_top (Unsends m ∷ before) g n e h = then_most n (top_of before g) (max (accepted_at g m.body) (top_of before g)) (decided_top before g n e h) (above (accepted_at g m.body) (top_of before g))
decided_top (_ ∷ before) g n e h = decided_top before g n e h

pub applied_top : (met : List Met) (stored : GroupId → ℕ) (group : GroupId) → applied_at met stored group ≤ top_of met group
applied_top met stored group = by (cases_lt 0 (applied_at met stored group))
  where
    none : (a b : ℕ) → a ≤ 0 → a ≤ b
    none a b le = omega (arith, le)

    by : (0 < applied_at met stored group) ⊎ (applied_at met stored group ≤ 0) → applied_at met stored group ≤ top_of met group
    by (inl more) = let found = prefix_decided met group (applied_at met stored group) more (applied_least (log_of met group) (stored group)) in decided_top met group (applied_at met stored group) found.entry found.is
    by (inr le) = none (applied_at met stored group) (top_of met group) le
