use Rattle.std.proofs.Common.{arith}
use Rattle.mega_replay_output.proofs.Texts.{item_written, item_cut}
use Rattle.mega_replay_output.proofs.writing.write_lines.Goals as goal

pub returns-in-Err-clause-cut : goal.returns-in-Err-clause-cut
returns-in-Err-clause-cut g c =
    let before = g.O.Sink.held c.args.out.now in
    let mid = g.O.Sink.held c.loop-item.out in
    let after = g.O.Sink.held c.write_item.new.out in
    item_cut before mid after c.args.waiting.now c.loop-item.waiting c.write_item.new.waiting c.args.schema.now c.args.items.now c.loop-item.item-index c.item-item.result c.loop-item-test.true c.item-item.is c.loop-item.invariant.1 c.in-Err.ensures.cut

pub loop-item-preserved : goal.loop-item-preserved
loop-item-preserved g c =
    let before = g.O.Sink.held c.args.out.now in
    let mid = g.O.Sink.held c.loop-item.out in
    let after = g.O.Sink.held c.write_item.new.out in (
      omega arith,
      item_written before mid after c.args.waiting.now c.loop-item.waiting c.write_item.new.waiting c.args.schema.now c.args.items.now c.loop-item.item-index c.item-item.result c.loop-item-test.true c.item-item.is c.loop-item.invariant.1
          c.in-Ok.ensures.text,
    )
