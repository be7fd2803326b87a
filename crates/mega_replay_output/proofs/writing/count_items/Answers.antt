use Rattle.std.proofs.Common.{◌++◌, take}
use Rattle.mega_tally.specs.Counting.{Counts}
use Rattle.mega_replay_output.proofs.Texts.{counted_more}
use Rattle.mega_replay_output.proofs.writing.count_items.Goals as goal

pub loop-item-preserved : goal.loop-item-preserved
loop-item-preserved c before counts =
    counted_more (Counts c.count.new.self) before c.args.items.now c.loop-item.item-index c.item-item.result c.loop-item-test.true c.item-item.is (c.in-Ok.ensures (before ++ take c.loop-item.item-index c.args.items.now) (c.loop-item.invariant before counts))
