use Rattle.std.proofs.Common.{subst, arith}
use Rattle.std.specs.Prelude.{All}
use Rattle.std.proofs.lemmas.List.{take_all}
use Rattle.std.proofs.lemmas.List.Elements.{All-more}
use Rattle.mega_actions.specs.Waiting.{Waits}
use Rattle.mega_actions.proofs.resting.are_waiting.Goals as goal

pub loop-operation-preserved : goal.loop-operation-preserved
loop-operation-preserved g c =
    let waits = Waits c.args.voter.now.logs.kept in
    All-more waits c.args.operations.now c.loop-operation.operation-index c.operation-item.result c.loop-operation-test.true c.loop-operation.invariant
    (subst waits c.operation-item.is (c.stays.ensures c.if-not-stays.false))

pub returns : goal.returns
returns g c passed =
    subst (All (Waits c.args.voter.now.logs.kept)) (take_all c.loop-operation.operation-index c.args.operations.now (let done = c.loop-operation-test.false in omega arith)) c.loop-operation.invariant
