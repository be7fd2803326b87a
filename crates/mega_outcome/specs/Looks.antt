-- What looking at rows leaves of the store that holds them, and why a look fails.
use Rattle.std.specs.Prelude.{◌≡◌, ℕ, ◌≤◌, true, Option, Some}
use Rattle.mega_base.specs.Causes.{Rose}
use Rattle.mega_disk.specs.Images.{Within, LeavesOnly}
use Rattle.mega_disk.specs.Fuse.{MayBurn, Burns}
use Rattle.mega_disk.specs.declared.versions.StoreError.{StoreError}
use Rattle.mega_disk.specs.declared.versions.StoreError.TheVariants.{DiskFault, Full, BadRecord}
use Rattle.mega_disk.specs.declared.versions.Versions.{Ghosts}

-- the store after looks: it holds what it held, and only its device went on
pub record Looked {V : Type 0} (store : Ghosts V) (old new : V) : Type 0 where
  pub versions : store.version new ≡ store.version old
  pub cleaned : store.cleaned new ≡ store.cleaned old
  pub marks : store.marked new ≡ store.marked old
  pub full : store.is_full new ≡ store.is_full old
  pub any_moment : LeavesOnly store.moment store.opened_since old new (store.may_open old)
  pub within : Within (store.may_open old) (store.may_open new)
  pub later : store.faults old ≤ store.faults new
  pub may_burn : MayBurn (store.fuse_left old) (store.fuse_left new)
  pub by_fuse : store.fails_by_fuse old ≡ true → store.fails_by_fuse new ≡ true
  pub bad_stays : (n : ℕ) → store.is_bad new n → store.is_bad old n

-- the same where the last look may have failed, with its cause
pub record Looks {V : Type 0} (store : Ghosts V) (failed : Option StoreError) (old new : V) : Type 0 where
  pub looked : Looked store old new
  pub cause : failed ≡ Some DiskFault → Rose (store.faults old) (store.faults new)
  pub bad : (n : ℕ) → failed ≡ Some (BadRecord n) → store.is_bad old n
  pub never_full : (n : ℕ) → failed ≡ Some (Full n) → ⊥
  pub burns : store.fails_by_fuse old ≡ true → failed ≡ Some DiskFault → Burns (store.fuse_left old) (store.fuse_left new)
