use Rattle.std.proofs.Common.{◌≡◌, ◌-◌, ◌≤◌, ℕ, List, [], true, length}
use Rattle.mega_disk.specs.Images.{LeavesOnly}
use Rattle.mega_disk.specs.Fuse.{LowersBy}
use Rattle.mega_areas.specs.declared.area.Area.{Area}
use Rattle.mega_areas.specs.Pages.{length_of_pages}
use Rattle.mega_areas.specs.Places.{Keeps, AllKeep, Puts}
use Rattle.mega_areas.proofs.writing.grow.Given as goal

abbrev pub invariant-loop-at : goal.invariant-loop-at
invariant-loop-at g l = record {
  from_pages : l.pages ≤ l.at;
  to_wanted : l.at ≤ l.wanted;
  put : (area : Area) (place : ℕ) → g.D.Disk.is_told ≡ true → Puts area place [] (g.D.Disk.seen l.fn.disk) (g.D.Disk.seen l.disk);
  size : g.D.Disk.is_told ≡ true → length (g.D.Disk.seen l.disk) ≡ length_of_pages l.at;
  kept : (area : Area) (from : ℕ) (file : List ℕ) → length file ≤ length_of_pages l.pages → AllKeep area from file (g.D.Disk.may_leave l.fn.disk) → AllKeep area from file (g.D.Disk.may_leave l.disk);
  moments : (area : Area) (from : ℕ) (file : List ℕ) → length file ≤ length_of_pages l.pages → AllKeep area from file (g.D.Disk.may_leave l.fn.disk) → LeavesOnly g.D.Disk.moment g.D.Disk.left_since l.fn.disk l.disk (Keeps area from file);
  later : g.D.Disk.faults l.fn.disk ≤ g.D.Disk.faults l.disk;
  lowers : LowersBy 0 (g.D.Disk.fuse_left l.fn.disk) (g.D.Disk.fuse_left l.disk);
  by_fuse : g.D.Disk.fails_by_fuse l.fn.disk ≡ true → g.D.Disk.fails_by_fuse l.disk ≡ true;
}

abbrev pub decreases-loop-at : goal.decreases-loop-at
decreases-loop-at g l = l.wanted - l.at
