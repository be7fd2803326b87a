use Rattle.std.proofs.Common.{◌≡◌, ◌-◌, ◌≤◌, ℕ, List, true, min, length, take}
use Rattle.mega_disk.specs.Images.{LeavesOnly}
use Rattle.mega_disk.specs.Fuse.{LowersBy}
use Rattle.mega_areas.specs.Pages.{length_of_pages}
use Rattle.mega_areas.specs.Places.{Keeps, AllKeep, Puts}
use Rattle.mega_areas.proofs.writing.write_area.Given as goal

abbrev pub invariant-loop-done : goal.invariant-loop-done
invariant-loop-done g l = record {
  within_bytes : l.done ≤ length l.bytes;
  put : g.D.Disk.is_told ≡ true → Puts l.area l.place (take l.done l.bytes) (g.D.Disk.seen l.fn.disk) (g.D.Disk.seen l.disk);
  size : g.D.Disk.is_told ≡ true → length (g.D.Disk.seen l.disk) ≡ length_of_pages l.pages;
  kept : (from : ℕ) (file : List ℕ) → from ≤ l.place → AllKeep l.area from file (g.D.Disk.may_leave l.fn.disk) → AllKeep l.area from file (g.D.Disk.may_leave l.disk);
  moments : (from : ℕ) (file : List ℕ) → from ≤ l.place → AllKeep l.area from file (g.D.Disk.may_leave l.fn.disk) → LeavesOnly g.D.Disk.moment g.D.Disk.left_since l.fn.disk l.disk (Keeps l.area from file);
  later : g.D.Disk.faults l.fn.disk ≤ g.D.Disk.faults l.disk;
  lowers : LowersBy (min l.done 1) (g.D.Disk.fuse_left l.fn.disk) (g.D.Disk.fuse_left l.disk);
  by_fuse : g.D.Disk.fails_by_fuse l.fn.disk ≡ true → g.D.Disk.fails_by_fuse l.disk ≡ true;
}

abbrev pub decreases-loop-done : goal.decreases-loop-done
decreases-loop-done g l = length l.bytes - l.done
