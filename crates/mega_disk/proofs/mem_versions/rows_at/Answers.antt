use Rattle.std.proofs.Common.{arith}
use Rattle.mega_disk.specs.MemVersions.{version_in}
use Rattle.mega_disk.proofs.Scanned.{turn, is_scan}
use Rattle.mega_disk.proofs.mem_versions.rows_at.Goals as goal

pub loop-version-preserved : goal.loop-version-preserved
loop-version-preserved c =
    turn (version_in c.args.versions.now) c.args.from.now c.args.to.now c.args.at.0 c.args.versions.now c.loop-version.version-index c.version-item.result c.loop-version.rows.items c.add_visible.new.rows.items (omega arith) c.version-item.is c.loop-version.invariant c.in_ok-add_visible.ensures

pub returns : goal.returns
returns c = is_scan c.args.versions.now c.loop-version.version-index c.args.from.now c.args.to.now c.args.at.0 c.loop-version.rows.items (omega arith) c.loop-version.invariant
