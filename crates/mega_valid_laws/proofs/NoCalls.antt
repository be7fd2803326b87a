-- Which notes of a node are no calls of its coordinator: all but starts, ticks, messages that are taken and validates.
use Rattle.std.proofs.Common.{◌≡◌, ℕ, ◌+◌, ◌==◌, ◌&&◌, nat_le, Bool, true, false, cond, List, [], ◌∷◌, Option, Some, None, is_some, refl, ◌∙◌}
use Rattle.mega_base.specs.declared.names.Epoch.{Epoch}
use Rattle.mega_cluster.specs.declared.cluster.Cluster.{Cluster}
use Rattle.mega_coordinator.specs.Lease.{counted_by, granted_answer}
use Rattle.mega_coordinator.specs.History.{lease_of}
use Rattle.mega_coordinator.specs.declared.answers.Counted.{Counted}
use Rattle.mega_coordinator.specs.declared.answers.Counted.TheVariants.{No, Yes, Serving}
use Rattle.mega_locks.specs.declared.asked.Asked.{Asked}
use Rattle.mega_locks.specs.declared.asked.Asked.TheVariants.{Granted as AnswerGranted, Renewed, GreaterHeld, Over}
use Rattle.mega_wire.specs.declared.message.Body.{Body}
use Rattle.mega_wire.specs.declared.message.Body.TheVariants.{Acquire, Granted, Invalidate}
use Rattle.mega_settled_laws.specs.of_tape_laws.of_promises.of_rules.Met.{Met, Starts, Ticks, Takes, Validates, Invalidates}
use Rattle.mega_settled_laws.specs.of_tape_laws.of_promises.of_rules.Clock.{clock_of, start_of}
use Rattle.mega_settled_laws.specs.of_tape_laws.of_promises.of_rules.Coordinators.{coordinator_calls, counts_notes, forget_notes, grant_notes, lost_note}
use Rattle.mega_settled_laws.specs.of_tape_laws.of_promises.of_rules.Locks.{asked_for, grant_note}
use Rattle.mega_settled_laws.specs.of_tape_laws.of_promises.of_rules.Members.{cells, is_full}
use Rattle.mega_settled_laws.specs.of_tape_laws.of_promises.of_rules.Operations.{Setting}
use Rattle.mega_settled_laws.specs.of_tape_laws.of_promises.of_rules.Steps.{onto, taken, told_notes}
use Rattle.mega_settled_laws.specs.of_run_laws.Justified.{Each}

-- notes that are no call
abbrev pub IsNoCall : Met → Type 0
IsNoCall (Starts start) = ⊥
IsNoCall (Ticks now) = ⊥
IsNoCall (Takes message) = ⊥
IsNoCall (Validates group position) = ⊥
IsNoCall _ = Unit {0}

pub record Uncalled (c : Cluster) (one two : List Met) : Type 0 where
  pub start : start_of one ≡ start_of two
  pub calls : coordinator_calls c one ≡ coordinator_calls c two

uncalled_one : (c : Cluster) (one : Met) (met : List Met) → IsNoCall one → Uncalled c (one ∷ met) met
uncalled_one c (Starts start) met n = absurd n
uncalled_one c (Ticks now) met n = absurd n
uncalled_one c (Takes message) met n = absurd n
uncalled_one c (Validates group position) met n = absurd n
uncalled_one c _ met n = record { start = refl; calls = refl }

pub uncalled_all : (c : Cluster) (notes met : List Met) → Each IsNoCall notes → Uncalled c (onto notes met) met
uncalled_all c [] met n = record { start = refl; calls = refl }
uncalled_all c (one ∷ notes) met n =
    let rest = uncalled_all c notes (one ∷ met) n.1 in let first = uncalled_one c one met n.0 in record { start = rest.start ∙ first.start; calls = rest.calls ∙ first.calls }

pub no_call_if : (t : Bool) (xs : List Met) → Each IsNoCall xs → Each IsNoCall (cond t xs [])
no_call_if true xs h = h
no_call_if false xs h = tt

pub grant_no_call : (node : ℕ) (epoch : Epoch) (a : Asked) → Each IsNoCall (grant_note node epoch a)
grant_no_call node epoch AnswerGranted = (tt, tt)
grant_no_call node epoch Renewed = tt
grant_no_call node epoch (GreaterHeld greatest) = tt
grant_no_call node epoch (Over greatest) = tt

counts_no_call : (cell : ℕ) (epoch : Epoch) (was : Bool) (a : Counted) → Each IsNoCall (counts_notes cell epoch was a)
counts_no_call cell epoch was No = tt
counts_no_call cell epoch true Yes = tt
counts_no_call cell epoch false Yes = (tt, tt)
counts_no_call cell epoch true Serving = (tt, tt)
counts_no_call cell epoch false Serving = (tt, (tt, tt))

pub told_no_call : (s : Setting) (met : List Met) (from : ℕ) (body : Body) → Each IsNoCall (told_notes s met from body)
told_no_call s met from (Acquire cell epoch clock) = no_call_if (cell == s.me && nat_le s.me s.cluster.cells) (grant_note from epoch (asked_for s.cluster s.me met from epoch)) (grant_no_call from epoch (asked_for s.cluster s.me met from epoch))
told_no_call s met from (Granted cell epoch clock) = no_call_if (is_full s.cluster s.me && nat_le cell s.cluster.cells) (grant_notes s.cluster met cell epoch clock)
    (counts_no_call cell epoch (is_some (counted_by (lease_of (start_of met) s.cluster.cells (coordinator_calls s.cluster met)) cell))
    (granted_answer (start_of met) s.cluster.cells (lease_of (start_of met) s.cluster.cells (coordinator_calls s.cluster met)) cell epoch (clock + s.cluster.lease) (clock_of met)))
told_no_call s met from (Invalidate op group position) = no_call_if (is_full s.cluster s.me) (Invalidates group position.0 ∷ []) (tt, tt)
told_no_call s met from _ = tt

pub forgets_no_call : (o : Option Epoch) (xs : List ℕ) → Each IsNoCall (forget_notes o xs)
forgets_no_call None xs = tt
forgets_no_call (Some epoch) [] = tt
forgets_no_call (Some epoch) (cell ∷ xs) = (tt, forgets_no_call (Some epoch) xs)

pub lost_no_call : (o : Option Epoch) → Each IsNoCall (lost_note o)
lost_no_call None = tt
lost_no_call (Some epoch) = (tt, tt)
