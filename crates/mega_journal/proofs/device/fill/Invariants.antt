use Rattle.std.proofs.Common.{◌≡◌, ◌-◌, ◌≤◌, true, length, take}
use Rattle.mega_disk.specs.Images.{Within, LeavesOnly}
use Rattle.mega_disk.specs.Fuse.{LowersBy}
use Rattle.mega_journal.proofs.device.fill.Given as goal

abbrev pub invariant-loop-at : goal.invariant-loop-at
invariant-loop-at g l = record {
  within_bytes : l.at ≤ length l.bytes;
  filled : g.D.Disk.is_told ≡ true → take l.at l.bytes ≡ take l.at (g.D.Disk.seen l.fn.disk);
  seen : g.D.Disk.seen l.disk ≡ g.D.Disk.seen l.fn.disk;
  within : Within (g.D.Disk.may_leave l.fn.disk) (g.D.Disk.may_leave l.disk);
  moments : LeavesOnly g.D.Disk.moment g.D.Disk.left_since l.fn.disk l.disk (g.D.Disk.may_leave l.fn.disk);
  later : g.D.Disk.faults l.fn.disk ≤ g.D.Disk.faults l.disk;
  lowers : LowersBy 0 (g.D.Disk.fuse_left l.fn.disk) (g.D.Disk.fuse_left l.disk);
  by_fuse : g.D.Disk.fails_by_fuse l.fn.disk ≡ true → g.D.Disk.fails_by_fuse l.disk ≡ true;
}

abbrev pub decreases-loop-at : goal.decreases-loop-at
decreases-loop-at g l = length l.bytes - l.at
