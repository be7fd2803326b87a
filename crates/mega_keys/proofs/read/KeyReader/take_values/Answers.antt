use Rattle.std.proofs.Common.{arith}
use Rattle.std.proofs.lemmas.List.{drop_all}
use Rattle.mega_keys.proofs.ReadValues.{values_more, values_fail, values_end}
use Rattle.mega_keys.proofs.read.KeyReader.take_values.Goals as goal

pub returns-in-Err : goal.returns-in-Err
returns-in-Err c = values_fail c.args.kinds.now c.loop-kind.kind-index _ c.loop-kind.values c.in-Err.stop c.loop-kind.self _ c.loop-kind-test.true c.in-Err.ensures c.loop-kind.invariant

pub loop-kind-preserved : goal.loop-kind-preserved
loop-kind-preserved c =
    rw c.in_ok-push-in-Ok.ensures.ok (values_more c.args.kinds.now c.loop-kind.kind-index _ c.loop-kind.values c.in-Ok.value c.loop-kind.self c.take_value.new.self _ c.loop-kind-test.true c.in-Ok.ensures c.loop-kind.invariant)

pub returns : goal.returns
returns c = values_end _ c.loop-kind.values c.loop-kind.self _ (drop_all c.loop-kind.kind-index c.args.kinds.now (omega arith)) c.loop-kind.invariant
