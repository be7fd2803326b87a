use Rattle.std.proofs.Common.{◌≡◌, ◌≤◌, ℕ, List, true, length, drop}
use Rattle.mega_disk.specs.Images.{Within, LeavesOnly}
use Rattle.mega_disk.specs.Fuse.{LowersBy}
use Rattle.mega_runs.specs.declared.body.Version.{Version}
use Rattle.mega_runs.specs.Bodies.{ascends}
use Rattle.mega_runs.specs.Ranges.{AgreeWithin}
use Rattle.mega_runs.specs.Reads.{layered, versions_in}
use Rattle.mega_runs.specs.Index.{AreIndexed}
use Rattle.mega_runs.proofs.among.all_around.Given as goal

abbrev pub invariant-loop-left : goal.invariant-loop-left
invariant-loop-left g l = record {
  within_runs : l.left ≤ length l.runs;
  found : g.D.Disk.is_told ≡ true → (end : ℕ) (lists : List (List Version)) → AreIndexed (g.D.Disk.seen l.fn.disk) end l.runs lists → AgreeWithin l.from l.to (versions_in l.all.items) (layered (drop l.left lists));
  in_order : ascends l.all.items ≡ true;
  same : g.D.Disk.seen l.disk ≡ g.D.Disk.seen l.fn.disk;
  within : Within (g.D.Disk.may_leave l.fn.disk) (g.D.Disk.may_leave l.disk);
  moments : LeavesOnly g.D.Disk.moment g.D.Disk.left_since l.fn.disk l.disk (g.D.Disk.may_leave l.fn.disk);
  later : g.D.Disk.faults l.fn.disk ≤ g.D.Disk.faults l.disk;
  lowers : LowersBy 0 (g.D.Disk.fuse_left l.fn.disk) (g.D.Disk.fuse_left l.disk);
  by_fuse : g.D.Disk.fails_by_fuse l.fn.disk ≡ true → g.D.Disk.fails_by_fuse l.disk ≡ true;
}

abbrev pub decreases-loop-left : goal.decreases-loop-left
decreases-loop-left g l = l.left
