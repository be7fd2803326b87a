-- What a message tells begins nothing, and decides nothing.
use Rattle.std.proofs.Common.{◌≡◌, ℕ, Bool, true, false, cond, List, [], ◌∷◌, Option, Some, None, refl, ◌∙◌}
use Rattle.std.specs.List.{All}
use Rattle.std.proofs.lemmas.List.Elements.{All-append, All-cons, All-head, All-nil, All-tail, All-weaker}
use Rattle.mega_base.specs.declared.names.Epoch.{Epoch}
use Rattle.mega_coordinator.specs.declared.answers.Counted.{Counted}
use Rattle.mega_coordinator.specs.declared.answers.Counted.TheVariants.{No, Yes, Serving}
use Rattle.mega_locks.specs.declared.asked.Asked.{Asked}
use Rattle.mega_locks.specs.declared.asked.Asked.TheVariants.{Granted as Grant, Renewed, GreaterHeld, Over}
use Rattle.mega_wire.specs.declared.message.Body.{Body}
use Rattle.mega_wire.specs.declared.message.Body.TheVariants.{Acquire, Granted, Invalidate}
use Rattle.mega_rules.specs.Met.{Counts, Grants, Invalidates, Met, Serves}
use Rattle.mega_rules.specs.Clock.{begun_of}
use Rattle.mega_rules.specs.Coordinators.{counts_notes, grant_notes}
use Rattle.mega_rules.specs.Locks.{asked_for, grant_note}
use Rattle.mega_rules.specs.Operations.{Setting}
use Rattle.mega_rules.specs.Steps.{Decision, decision_note, onto, told_notes}
use Rattle.mega_actions.specs.of_node_laws.Deciding.{IsNoDecision}

pub record IsPlain (one : Met) : Type 0 where
  pub undecided : IsNoDecision one
  pub unbegun : (met : List Met) → begun_of (one ∷ met) ≡ begun_of met

nothing : All IsPlain []
nothing = All-nil IsPlain

single : (one : Met) → IsPlain one → All IsPlain (one ∷ [])
single one plain = All-cons IsPlain one [] plain nothing

if_noted : (t : Bool) (notes : List Met) → All IsPlain notes → All IsPlain (cond t notes [])
if_noted true notes h = h
if_noted false notes h = nothing

unless_noted : (t : Bool) (notes : List Met) → All IsPlain notes → All IsPlain (cond t [] notes)
unless_noted true notes h = nothing
unless_noted false notes h = h

grant_plain : (node : ℕ) (epoch : Epoch) (asked : Asked) → All IsPlain (grant_note node epoch asked)
grant_plain node epoch Grant = single (Grants node epoch) (record { undecided = refl; unbegun = λ met. refl })
grant_plain node epoch Renewed = nothing
grant_plain node epoch (GreaterHeld greatest) = nothing
grant_plain node epoch (Over greatest) = nothing

count_plain : (cell : ℕ) (epoch : Epoch) (was : Bool) → All IsPlain (cond was [] (Counts cell epoch ∷ []))
count_plain cell epoch was = unless_noted was (Counts cell epoch ∷ []) (single (Counts cell epoch) (record { undecided = refl; unbegun = λ met. refl }))

counts_plain : (cell : ℕ) (epoch : Epoch) (was : Bool) (counted : Counted) → All IsPlain (counts_notes cell epoch was counted)
counts_plain cell epoch was No = nothing
counts_plain cell epoch was Yes = count_plain cell epoch was
counts_plain cell epoch was Serving =
    All-append IsPlain (cond was [] (Counts cell epoch ∷ [])) (Serves epoch ∷ []) (count_plain cell epoch was) (single (Serves epoch) (record { undecided = refl; unbegun = λ met. refl }))

pub told_plain : (s : Setting) (met : List Met) (from : ℕ) (body : Body) → All IsPlain (told_notes s met from body)
told_plain s met from (Acquire cell epoch clock) = if_noted _ (grant_note from epoch (asked_for s.cluster s.me met from epoch)) (grant_plain from epoch (asked_for s.cluster s.me met from epoch))
told_plain s met from (Granted cell epoch clock) = if_noted _ (grant_notes s.cluster met cell epoch clock) (counts_plain cell epoch _ _)
told_plain s met from (Invalidate op group position) = if_noted _ (Invalidates group position.0 ∷ []) (single (Invalidates group position.0) (record { undecided = refl; unbegun = λ met. refl }))
told_plain s met from _ = nothing

pub plain_begun : (items met : List Met) → All IsPlain items → begun_of (onto items met) ≡ begun_of met
plain_begun [] met plain = refl
plain_begun (one ∷ items) met plain = plain_begun items (one ∷ met) (All-tail IsPlain one items plain) ∙ (All-head IsPlain one items plain).unbegun met

pub plain_undecided : (items : List Met) → All IsPlain items → All IsNoDecision items
plain_undecided items plain = All-weaker IsPlain IsNoDecision (λ one p. p.undecided) items plain

pub decision_begun : (d : Option Decision) (met : List Met) → begun_of (onto (decision_note d) met) ≡ begun_of met
decision_begun None met = refl
decision_begun (Some d) met = refl
