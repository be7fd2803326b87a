-- How far the epochs of a coordinator have come, by what its node met.
use Rattle.std.proofs.Common.{◌≡◌, ◌⊎◌, inl, inr, ℕ, ◌+◌, ◌||◌, ◌≤◌, ◌<◌, nat_lt, Bool, true, false, cond, List, [], ◌∷◌, ◌++◌, map, Option, Some, None, refl, sym, ap, ◌∙◌, subst, arith}
use Rattle.mega_base.specs.declared.names.Epoch.{Epoch}
use Rattle.mega_cluster.specs.declared.cluster.Cluster.{Cluster}
use Rattle.mega_coordinator.specs.declared.lease.Lease.{Lease}
use Rattle.mega_coordinator.specs.Lease.{after_grant, counts, epoch_of, is_majority, left, next_lease, state_of, until_with}
use Rattle.mega_coordinator.specs.History.{Call, Ticks as TickCall, Grants as GrantCall, Passes, Invalidates as InvalidCall, Validates as ValidCall, ends, epoch_after, lease_of, serving}
use Rattle.mega_coordinator.specs.Laws.{endings}
use Rattle.mega_coordinator.proofs.Epochs.{epoch_counts, serves_alone}
use Rattle.mega_wal.specs.History.{is_epoch_below}
use Rattle.mega_lease_laws.proofs.of_run_laws.of_tape_laws.Lists.{some_is}
use Rattle.mega_lease_laws.specs.of_run_laws.of_tape_laws.of_promises.of_rules.Met.{Met, Starts, Crashes, Ticks, Begins, Takes, Sends, Unsends, Grants, Lapses, Counts, Forgets, Serves, Loses, Validates, Invalidates, Decides, Applies, Answers}
use Rattle.mega_lease_laws.specs.of_run_laws.of_tape_laws.of_promises.of_rules.Clock.{clock_of, start_of}
use Rattle.mega_lease_laws.specs.of_run_laws.of_tape_laws.of_promises.of_rules.Coordinators.{coordinator_calls, told_by, validated}
use Rattle.mega_lease_laws.specs.of_run_laws.of_tape_laws.of_promises.of_rules.Steps.{onto}
use Rattle.mega_lease_laws.specs.of_run_laws.Justified.{Each}
use Rattle.mega_valid_laws.proofs.Orders.{below_of}

abbrev pub ended : Cluster → List Met → ℕ
ended c met = endings (start_of met) c.cells (coordinator_calls c met)

-- an epoch is at or below the present one
abbrev pub EpochReached : Cluster → List Met → Epoch → Type 0
EpochReached c met e = (e.start < start_of met) ⊎ ((e.start ≡ start_of met) × (e.count ≤ ended c met))

-- it is the present one
abbrev pub IsPresent : Cluster → List Met → Epoch → Type 0
IsPresent c met e = (e.start ≡ start_of met) × (e.count ≡ ended c met)

pub present_reached : (c : Cluster) (met : List Met) (e : Epoch) → IsPresent c met e → EpochReached c met e
present_reached c met e h = inr (h.0, (let same = h.1 in omega (arith, same)))

-- what is reached is not above what is present
pub not_above : (c : Cluster) (met : List Met) (now e : Epoch) → IsPresent c met now → EpochReached c met e → is_epoch_below now e ≡ false
not_above c met now e present reached = by (is_epoch_below now e) refl
  where
    clash : (now.start < e.start) ⊎ ((now.start ≡ e.start) × (now.count < e.count)) → EpochReached c met e → ⊥
    clash (inl less) (inl h) = let one = present.0 in omega (arith, less, h, one)
    clash (inl less) (inr h) = let one = present.0 in let same = h.0 in omega (arith, less, one, same)
    clash (inr less) (inl h) = let one = present.0 in let same = less.0 in omega (arith, h, one, same)
    clash (inr less) (inr h) = let one = present.1 in let most = h.1 in let more = less.1 in omega (arith, one, most, more)

    by : (t : Bool) → is_epoch_below now e ≡ t → t ≡ false
    by true k = absurd (clash (below_of now e k) reached)
    by false k = refl

-- ---- what a node meets in one start

-- more calls in the same start
pub record Grown (c : Cluster) (met later : List Met) : Type 0 where
  pub start : start_of later ≡ start_of met
  pub more : List Call
  pub calls : coordinator_calls c later ≡ more ++ coordinator_calls c met

pub grown_self : (c : Cluster) (met : List Met) → Grown c met met
grown_self c met = record { start = refl; more = []; calls = refl }

regroup : {X : Type 0} (a b d : List X) → a ++ (b ++ d) ≡ (a ++ b) ++ d
regroup [] b d = refl
regroup (x ∷ a) b d = ap (λ xs. x ∷ xs) (regroup a b d)

grown_then : (c : Cluster) (a b d : List Met) → Grown c a b → Grown c b d → Grown c a d
grown_then c a b d g h = record { start = h.start ∙ g.start; more = h.more ++ g.more; calls = h.calls ∙ ap (λ xs. h.more ++ xs) g.calls ∙ regroup h.more g.more (coordinator_calls c a) }

abbrev pub IsWithin : Met → Type 0
IsWithin (Starts start) = ⊥
IsWithin _ = Unit {0}

grown_one : (c : Cluster) (one : Met) (met : List Met) → IsWithin one → Grown c met (one ∷ met)
grown_one c (Starts start) met h = absurd h
grown_one c (Ticks now) met h = record { start = refl; more = TickCall now ∷ []; calls = refl }
grown_one c (Takes message) met h = record { start = refl; more = told_by c (clock_of met) message.body; calls = refl }
grown_one c (Validates group position) met h = record { start = refl; more = validated group position (serving (start_of met) c.cells (coordinator_calls c met)); calls = refl }
grown_one c Crashes met h = record { start = refl; more = []; calls = refl }
grown_one c (Begins op text) met h = record { start = refl; more = []; calls = refl }
grown_one c (Sends message) met h = record { start = refl; more = []; calls = refl }
grown_one c (Unsends message) met h = record { start = refl; more = []; calls = refl }
grown_one c (Grants node epoch) met h = record { start = refl; more = []; calls = refl }
grown_one c (Lapses node epoch) met h = record { start = refl; more = []; calls = refl }
grown_one c (Counts cell epoch) met h = record { start = refl; more = []; calls = refl }
grown_one c (Forgets cell epoch) met h = record { start = refl; more = []; calls = refl }
grown_one c (Serves epoch) met h = record { start = refl; more = []; calls = refl }
grown_one c (Loses epoch) met h = record { start = refl; more = []; calls = refl }
grown_one c (Invalidates group position) met h = record { start = refl; more = []; calls = refl }
grown_one c (Decides group position entry) met h = record { start = refl; more = []; calls = refl }
grown_one c (Applies group position) met h = record { start = refl; more = []; calls = refl }
grown_one c (Answers op answer) met h = record { start = refl; more = []; calls = refl }

pub grown_onto : (c : Cluster) (notes met : List Met) → Each IsWithin notes → Grown c met (onto notes met)
grown_onto c [] met h = grown_self c met
grown_onto c (one ∷ notes) met h = grown_then c met (one ∷ met) (onto notes (one ∷ met)) (grown_one c one met h.0) (grown_onto c notes (one ∷ met) h.1)

more_endings : (start cells : ℕ) (more calls : List Call) → endings start cells calls ≤ endings start cells (more ++ calls)
more_endings start cells [] calls = omega arith
more_endings start cells (call ∷ more) calls = let rest = more_endings start cells more calls in by (ends start cells (more ++ calls) call) rest
  where
    by : (t : Bool) → endings start cells calls ≤ endings start cells (more ++ calls) → endings start cells calls ≤ cond t 1 0 + endings start cells (more ++ calls)
    by true le = omega (arith, le)
    by false le = omega (arith, le)

pub ended_grown : (c : Cluster) (met later : List Met) → Grown c met later → ended c met ≤ ended c later
ended_grown c met later g = subst (λ n. ended c met ≤ n) (sym (λ i. endings (g.start i) c.cells (g.calls i))) (more_endings (start_of met) c.cells g.more (coordinator_calls c met))

pub reached_grown : (c : Cluster) (met later : List Met) (e : Epoch) → Grown c met later → EpochReached c met e → EpochReached c later e
reached_grown c met later e g (inl h) = inl (let same = g.start in omega (arith, h, same))
reached_grown c met later e g (inr h) = inr (h.0 ∙ sym g.start, (let le = h.1 in let most = ended_grown c met later g in omega (arith, le, most)))

-- a later start
pub reached_start : (c : Cluster) (met : List Met) (count : ℕ) (e : Epoch) → start_of met < count → EpochReached c met e → e.start < count
reached_start c met count e less (inl h) = omega (arith, less, h)
reached_start c met count e less (inr h) = let same = h.0 in omega (arith, less, same)

-- what is present later and was reached was present
pub present_before : (c : Cluster) (met later : List Met) (e : Epoch) → Grown c met later → EpochReached c met e → IsPresent c later e → IsPresent c met e
present_before c met later e g (inl h) p = absurd (clash p.0)
  where
    clash : e.start ≡ start_of later → ⊥
    clash k = let same = g.start in omega (arith, h, k, same)
present_before c met later e g (inr h) p = (h.0, (let le = h.1 in let most = ended_grown c met later g in let is = p.1 in omega (arith, le, most, is)))

-- ---- what serves

pub served_state : (serves : Bool) (o : Option Epoch) (e : Epoch) → cond serves o None ≡ Some e → (serves ≡ true) × (o ≡ Some e)
served_state true o e h = (refl, h)
served_state false o e h = cc

-- while no epoch ends, the one that serves goes on
serves_on : (start cells : ℕ) (call : Call) (before : List Call) (e : Epoch) → serving start cells before ≡ Some e → ends start cells before call ≡ false → serving start cells (call ∷ before) ≡ Some e
serves_on start cells (TickCall now) before e s none = ap (λ t. state_of start (cond t (next_lease lease) (record { count = lease.count; serves = lease.serves; until = map (left now) lease.until }))) none ∙ s
  where
    lease : Lease
    lease = lease_of start cells before
serves_on start cells (GrantCall cell epoch until now) before e s none = by (counts start cells lease cell epoch until now)
  where
    lease : Lease
    lease = lease_of start cells before

    parts : (lease.serves ≡ true) × (epoch_of start lease ≡ Some e)
    parts = served_state lease.serves (epoch_of start lease) e s

    by : (t : Bool) → state_of start (cond t (after_grant cells lease cell until) lease) ≡ Some e
    by true = ap (λ t. cond (t || is_majority cells (until_with lease cell until)) (epoch_of start lease) None) parts.0 ∙ parts.1
    by false = s
serves_on start cells (Passes epoch) before e s none = ap (λ t. state_of start (cond t (next_lease (lease_of start cells before)) (lease_of start cells before))) none ∙ s
serves_on start cells (InvalidCall group n) before e s none = s
serves_on start cells (ValidCall group n begun) before e s none = s

pub serves_more : (start cells : ℕ) (more calls : List Call) (e : Epoch) → serving start cells calls ≡ Some e → endings start cells (more ++ calls) ≡ endings start cells calls → serving start cells (more ++ calls) ≡ Some e
serves_more start cells [] calls e s same = s
serves_more start cells (call ∷ more) calls e s same = by (ends start cells (more ++ calls) call) refl (more_endings start cells more calls) (serves_more start cells more calls e s)
  where
    by : (t : Bool) → ends start cells (more ++ calls) call ≡ t → endings start cells calls ≤ endings start cells (more ++ calls)
        → (endings start cells (more ++ calls) ≡ endings start cells calls → serving start cells (more ++ calls) ≡ Some e) → serving start cells (call ∷ (more ++ calls)) ≡ Some e
    by true k le earlier = absurd (ended_too (sym (ap (λ b. cond b 1 0 + endings start cells (more ++ calls)) k) ∙ same))
      where
        ended_too : 1 + endings start cells (more ++ calls) ≡ endings start cells calls → ⊥
        ended_too h = omega (arith, le, h)
    by false k le earlier = serves_on start cells call (more ++ calls) e (earlier (rest (sym (ap (λ b. cond b 1 0 + endings start cells (more ++ calls)) k) ∙ same))) k
      where
        rest : 0 + endings start cells (more ++ calls) ≡ endings start cells calls → endings start cells (more ++ calls) ≡ endings start cells calls
        rest h = omega (arith, h)

-- the epoch that serves is the present one
pub serving_present : (c : Cluster) (met : List Met) (e : Epoch) → serving (start_of met) c.cells (coordinator_calls c met) ≡ Some e → IsPresent c met e
serving_present c met e h = let same = (serves_alone (start_of met) c.cells (coordinator_calls c met) e h).present in (ap (λ (x : Epoch). x.start) same, ap (λ (x : Epoch). x.count) same)

-- so is the one for which a node asks
pub asked_present : (start cells : ℕ) (calls : List Call) (e : Epoch) → epoch_after start cells calls ≡ Some e → (e.start ≡ start) × (e.count ≡ endings start cells calls)
asked_present start cells calls e h = by (nat_lt (endings start cells calls) 4294967296) (sym (epoch_counts start cells calls) ∙ h)
  where
    by : (t : Bool) → cond t (Some (record { start = start; count = endings start cells calls })) None ≡ Some e → (e.start ≡ start) × (e.count ≡ endings start cells calls)
    by true k = let same = some_is (record { start = start; count = endings start cells calls }) e k in (sym (ap (λ (x : Epoch). x.start) same), sym (ap (λ (x : Epoch). x.count) same))
    by false k = cc

pub serving_grown : (c : Cluster) (met later : List Met) (e : Epoch) → Grown c met later → serving (start_of met) c.cells (coordinator_calls c met) ≡ Some e → IsPresent c later e → serving (start_of later) c.cells (coordinator_calls c later) ≡ Some e
serving_grown c met later e g s p = (λ i. serving (g.start i) c.cells (g.calls i)) ∙ serves_more (start_of met) c.cells g.more (coordinator_calls c met) e s (sym (λ i. endings (g.start i) c.cells (g.calls i)) ∙ sym p.1 ∙ (serving_present c met e s).1)
