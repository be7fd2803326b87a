use Rattle.mega_rows.specs.Lines.{version_in}
use Rattle.mega_rows.proofs.Cleans.{is_greater, no_range_cleaned}
use Rattle.mega_rows.proofs.lines.clean.Goals as goal

pub returns-then-is_gt-clause-exact : goal.returns-then-is_gt-clause-exact
returns-then-is_gt-clause-exact c = no_range_cleaned (version_in c.args.lines.now) c.args.from.now c.args.to.now c.args.below (is_greater c.args.from.now c.args.to.now c.cmp.result c.is_gt.result c.cmp.ensures c.is_gt.ensures c.if-is_gt.true)
