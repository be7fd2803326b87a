-- What calls on rows leave of the device below them, and why the last of them failed.
use Rattle.std.specs.Prelude.{◌≡◌, ◌⊎◌, ℕ, ◌≤◌, true, Option, Some}
use Rattle.mega_base.specs.Causes.{Rose}
use Rattle.mega_disk.specs.Images.{Within}
use Rattle.mega_disk.specs.VersionMaps.{Stored}
use Rattle.mega_disk.specs.Fuse.{MayBurn, Burns}
use Rattle.mega_disk.specs.declared.versions.StoreError.{StoreError}
use Rattle.mega_disk.specs.declared.versions.StoreError.TheVariants.{DiskFault, Full, BadRecord}
use Rattle.mega_disk.specs.declared.versions.Versions.{Ghosts}

-- nothing was spilled or cleaned: a crash since any earlier moment leaves what it might have left then, or what it may leave now
pub record NothingSpilled {V : Type 0} (store : Ghosts V) (old new : V) : Type 0 where
  pub cleaned : store.cleaned new ≡ store.cleaned old
  pub marks : store.marked new ≡ store.marked old
  pub within : Within (store.may_open old) (store.may_open new)
  pub later : store.moment old ≤ store.moment new
  pub before : (t : ℕ) (found : Stored) → t ≤ store.moment old → store.opened_since new t found → store.opened_since old t found ⊎ store.may_open old found

-- the device only went on, no record became bad, and the last call, if it failed, failed for what is said of it; memory may be wanting
pub record StoreUsed {V : Type 0} (store : Ghosts V) (failed : Option StoreError) (old new : V) : Type 0 where
  pub unspilled : NothingSpilled store old new
  pub later : store.faults old ≤ store.faults new
  pub bad_stays : (n : ℕ) → store.is_bad new n → store.is_bad old n
  pub may_burn : MayBurn (store.fuse_left old) (store.fuse_left new)
  pub by_fuse : store.fails_by_fuse old ≡ true → store.fails_by_fuse new ≡ true
  pub cause : failed ≡ Some DiskFault → Rose (store.faults old) (store.faults new)
  pub bad : (n : ℕ) → failed ≡ Some (BadRecord n) → store.is_bad old n
  pub never_full : (n : ℕ) → failed ≡ Some (Full n) → ⊥
  pub burns : store.fails_by_fuse old ≡ true → failed ≡ Some DiskFault → Burns (store.fuse_left old) (store.fuse_left new)
