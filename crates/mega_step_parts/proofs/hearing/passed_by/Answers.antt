use Rattle.std.proofs.Common.{◌+◌, ap, subst}
use Rattle.std.proofs.lemmas.List.Elements.{All-more}
use Rattle.mega_step_parts.specs.Listening.{IsPassedBy}
use Rattle.mega_step_parts.proofs.hearing.passed_by.Goals as goal

pub loop-operation-preserved : goal.loop-operation-preserved
loop-operation-preserved c =
    let passed = IsPassedBy c.args.body.now in
    record {
      count = ap (λ n. n + 1) c.loop-operation.invariant.count;
      passed = All-more passed c.args.operations.now c.loop-operation.operation-index c.operation-item.result c.loop-operation-test.true c.loop-operation.invariant.passed
          (subst passed c.operation-item.is (cc));
    }
