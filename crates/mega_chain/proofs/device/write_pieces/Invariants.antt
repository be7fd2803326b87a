use Rattle.std.proofs.Common.{◌≡◌, ◌-◌, ◌≤◌, true, length, take}
use Rattle.mega_disk.specs.Images.{overwritten, Only, Torn, LeavesOnly}
use Rattle.mega_disk.specs.Fuse.{LowersBy}
use Rattle.mega_chain.specs.Rest.{AreTorn}
use Rattle.mega_chain.proofs.device.write_pieces.Given as goal

abbrev pub invariant-loop-done : goal.invariant-loop-done
invariant-loop-done g l = record {
  within_bytes : l.done ≤ length l.bytes;
  written : g.D.Disk.is_told ≡ true → g.D.Disk.seen l.disk ≡ overwritten l.at (take l.done l.bytes) (g.D.Disk.seen l.fn.disk);
  torn : g.D.Disk.is_told ≡ true → Only (g.D.Disk.seen l.fn.disk) (g.D.Disk.may_leave l.fn.disk) → AreTorn l.at (length l.bytes) (g.D.Disk.seen l.fn.disk) (g.D.Disk.may_leave l.disk);
  moments : g.D.Disk.is_told ≡ true → Only (g.D.Disk.seen l.fn.disk) (g.D.Disk.may_leave l.fn.disk) → LeavesOnly g.D.Disk.moment g.D.Disk.left_since l.fn.disk l.disk (Torn l.at (length l.bytes) (g.D.Disk.seen l.fn.disk));
  later : g.D.Disk.faults l.fn.disk ≤ g.D.Disk.faults l.disk;
  lowers : LowersBy 0 (g.D.Disk.fuse_left l.fn.disk) (g.D.Disk.fuse_left l.disk);
  by_fuse : g.D.Disk.fails_by_fuse l.fn.disk ≡ true → g.D.Disk.fails_by_fuse l.disk ≡ true;
}

abbrev pub decreases-loop-done : goal.decreases-loop-done
decreases-loop-done g l = length l.bytes - l.done
