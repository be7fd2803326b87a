-- The fuse on the log of a node: of the run, as it is kept beside the node, and as its records have it.
use Rattle.std.specs.Prelude.{◌≡◌, ◌+◌, ◌-◌, ◌*◌, ◌≤◌, Option, Some, None}
use Rattle.mega_disk.specs.declared.mem_records.MemRecords.{MemRecords}
use Rattle.mega_disk.specs.Fuse.{Fuse as CallsLeft, Left, Unset}
use Rattle.mega_disk.specs.MemDisk.{fuse_of, image_of}
use Rattle.mega_promises.specs.Runs.{Fuse}
use Rattle.mega_places.specs.declared.log_fuse.LogFuse.{LogFuse}

-- a fuse that is kept beside its node is one of the run
abbrev pub run_fuse : Option LogFuse → Option Fuse
run_fuse None = None
run_fuse (Some fuse) = Some (record { calls = fuse.calls; image = fuse.image; appended = fuse.appended })

-- the calls that a fuse of the run has left, of which each append makes four
abbrev pub left_of : Option Fuse → CallsLeft
left_of None = Unset
left_of (Some fuse) = Left (fuse.calls - 4 * fuse.appended)

-- it did not burn: it had all calls for each append
abbrev pub IsUnburnt : Option Fuse → Type 0
IsUnburnt None = Unit {0}
IsUnburnt (Some fuse) = 4 * fuse.appended ≤ fuse.calls

-- and has them for one append more
abbrev pub HasRoom : Option Fuse → Type 0
HasRoom None = Unit {0}
HasRoom (Some fuse) = 4 * fuse.appended + 4 ≤ fuse.calls

abbrev pub HasImage : MemRecords → Option Fuse → Type 0
HasImage records None = Unit {0}
HasImage records (Some fuse) = image_of records.fuse ≡ fuse.image

-- the fuse of the run is the one that is kept, and that of the records
pub record IsFused (kept : Option LogFuse) (records : MemRecords) (fuse : Option Fuse) : Type 0 where
  pub kept_is : run_fuse kept ≡ fuse
  pub left : fuse_of records.fuse ≡ left_of fuse
  pub image : HasImage records fuse
  pub unburnt : IsUnburnt fuse
