use Rattle.std.proofs.Common.{◌≡◌, ◌∙◌, ◌++◌, ◌∷◌, [], List, ap, map, rules, sym, append_assoc}
use Rattle.std.specs.Vec.Iter.{into_iter_items}
use Rattle.mega_rules.specs.Operations.{Operation}
use Rattle.mega_rules.specs.Steps.{Heard}
use Rattle.mega_actions.specs.Turns.{unheard}
use Rattle.mega_actions.proofs.resting.unheard.Goals as goal

pub loop-operation-preserved : goal.loop-operation-preserved
loop-operation-preserved c =
    let heard = c.loop-operation.heard in
    let rest = map unheard (into_iter_items c.next.new.self) in
    let pushed : c.push.new.self ≡ heard ++ unheard c.in-Some.operation ∷ [] = search rules in
    ap (λ (all : List Heard). all ++ rest) pushed
    ∙ (append_assoc heard (unheard c.in-Some.operation ∷ []) rest
    ∙ (ap (λ (os : List Operation). heard ++ map unheard os) (sym c.in-Some.ensures.steps.0) ∙ c.loop-operation.invariant))
