use Rattle.mega_node.proofs.Texts.{next_line}
use Rattle.mega_node.proofs.record.put_items.Goals as goal

pub loop-item-preserved : goal.loop-item-preserved
loop-item-preserved c =
    next_line c.args.schema.now c.args.items.now c.loop-item.item-index c.item-item.result c.loop-item-test.true c.item-item.is c.args.out.now c.loop-item.out c.text.new.out c.loop-item.invariant c.in_ok-text.ensures.ok
