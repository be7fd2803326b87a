use Rattle.std.proofs.Common.{◌∙◌, ◌++◌, ◌∷◌, [], List, ap, map, sym, append_assoc}
use Rattle.std.specs.Vec.Iter.{into_iter_items}
use Rattle.mega_rules.specs.Operations.{Operation}
use Rattle.mega_rules.specs.Steps.{Heard, hears_message}
use Rattle.mega_step_parts.proofs.hearing.these_hear.Goals as goal

pub loop-operation-preserved : goal.loop-operation-preserved
loop-operation-preserved c = λ s is.
    let hears = hears_message s c.args.clock c.args.message.now in
    let heard = c.loop-operation.heard in
    let rest = map hears (into_iter_items c.next.new.self) in
    ap (λ (all : List Heard). all ++ rest) (c.in_ok-hears.ensures s is)
    ∙ (append_assoc heard (hears c.in-Some.operation ∷ []) rest
    ∙ (ap (λ (os : List Operation). heard ++ map hears os) (sym c.in-Some.ensures.steps.0) ∙ c.loop-operation.invariant s is))
