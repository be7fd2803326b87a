-- What a call on logs leaves of the device below their records, and why it failed.
use Rattle.std.specs.Prelude.{◌≡◌, ℕ, ◌≤◌, ◌<◌, ◌^◌, true, false, Result, Ok, Err, Option, Some, None}
use Rattle.mega_base.specs.Causes.{Rose}
use Rattle.mega_disk.specs.Fuse.{MayBurn, Burns}
use Rattle.mega_disk.specs.Images.{SameImages}
use Rattle.mega_disk.specs.declared.records.Records.{Ghosts}
use Rattle.mega_wal.specs.declared.answers.LogFault.{LogFault}
use Rattle.mega_wal.specs.declared.answers.LogFault.TheVariants.{BadRecord, DiskFault, Full, Spent}

-- the fault of a call, if it failed
abbrev pub failed_by : {T : Type 0} → Result T LogFault → Option LogFault
failed_by (Ok made) = None
failed_by (Err fault) = Some fault

-- the device only went on, and the call, if it failed, failed for what is said of it, where the file would have this length; memory may be
-- wanting
pub record LogUsed {R : Type 0} (store : Ghosts R) (length : ℕ) (failed : Option LogFault) (old new : R) : Type 0 where
  pub later : store.faults old ≤ store.faults new
  pub may_burn : MayBurn (store.fuse_left old) (store.fuse_left new)
  pub by_fuse : store.fails_by_fuse old ≡ true → store.fails_by_fuse new ≡ true
  pub opened : store.opened new ≡ store.opened old
  pub cause : failed ≡ Some DiskFault → Rose (store.faults old) (store.faults new)
  pub burns : store.fails_by_fuse old ≡ true → failed ≡ Some DiskFault → Burns (store.fuse_left old) (store.fuse_left new)
  pub full : (n : ℕ) → failed ≡ Some (Full n) → ((store.is_spent old ≡ false) × (n ≡ length) × (2 ^ 40 < n)) × (new ≡ old)
  pub spent : failed ≡ Some Spent → (store.is_spent old ≡ true) × (new ≡ old)
  pub good : (n : ℕ) → failed ≡ Some (BadRecord n) → ⊥

-- the records and their device are as they were
pub record SameStore {R : Type 0} (store : Ghosts R) (old new : R) : Type 0 where
  pub list : store.list new ≡ store.list old
  pub same : SameImages store.moment store.may_open store.opened_since old new
  pub count : store.count_of new ≡ store.count_of old
  pub spent : store.is_spent new ≡ store.is_spent old
  pub due : store.is_due new ≡ store.is_due old
  pub faults : store.faults new ≡ store.faults old
  pub fuse : store.fuse_left new ≡ store.fuse_left old
  pub image : store.fuse_image new ≡ store.fuse_image old
  pub by_fuse : store.fails_by_fuse new ≡ store.fails_by_fuse old
