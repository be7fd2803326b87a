use Rattle.mega_rows.specs.Lines.{version_in}
use Rattle.mega_rows.proofs.Cleans.{trims_more}
use Rattle.mega_rows.proofs.lines.trim_keys.Goals as goal

pub loop-key-preserved : goal.loop-key-preserved
loop-key-preserved c = trims_more (version_in c.args.lines.now) (version_in c.loop-key.lines) (version_in c.trim_key.new.lines) c.args.keys.now c.loop-key.key-index c.key-item.result c.args.below
    c.key-item.is c.loop-key-test.true c.loop-key.invariant c.in_ok-trim_key.ensures.ok
