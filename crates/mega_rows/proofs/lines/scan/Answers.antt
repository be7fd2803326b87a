use Rattle.std.proofs.Common.{sym, subst}
use Rattle.mega_disk.specs.VersionMaps.{IsScan}
use Rattle.mega_rows.specs.Lines.{version_in}
use Rattle.mega_rows.proofs.Cleans.{is_greater, no_range_scan}
use Rattle.mega_rows.proofs.lines.scan.Goals as goal

pub returns-then-is_gt : goal.returns-then-is_gt
returns-then-is_gt c = subst (IsScan (version_in c.args.lines.now) c.args.from.now c.args.to.now c.args.at) (sym c.new.ensures.items)
    (no_range_scan (version_in c.args.lines.now) c.args.from.now c.args.to.now c.args.at (is_greater c.args.from.now c.args.to.now c.cmp.result c.is_gt.result c.cmp.ensures c.is_gt.ensures c.if-is_gt.true))
