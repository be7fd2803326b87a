use Rattle.mega_rows.specs.Lines.{version_in}
use Rattle.mega_rows.proofs.Scans.{all_seen, scanned}
use Rattle.mega_rows.proofs.lines.read_range.Goals as goal

pub returns : goal.returns
returns c = all_seen (version_in c.args.lines.now) c.args.from.now c.args.to.now c.args.at c.loop-key.rows.items c.loop-key.key-iterator c.into_iter-key-iterator.result c.range-key-items.result
    c.loop-key.invariant c.in-None.ensures.steps.0 c.into_iter-key-iterator.ensures.into_iter_gives
    (scanned c.args.lines.now c.args.from.now c.args.to.now c.args.at c.range-key-items.result c.range-key-items.ensures.ordered (c.range-key-items.ensures.between tt))
