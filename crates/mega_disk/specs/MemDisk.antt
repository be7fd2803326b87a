-- What a memory device tells of its fuse and of its next call.
use Rattle.std.specs.Prelude.{ℕ, zero, suc, ◌+◌, ◌==◌, Bool, true, Option, Some, None}
use Rattle.mega_disk.specs.Fuse.{Fuse, Untold, Unset, Left}
use Rattle.mega_disk.specs.declared.fuse.SetFuse.{SetFuse}
use Rattle.mega_disk.specs.declared.mem_disk.MemDisk.{MemDisk}

-- the calls that a fuse has left
abbrev pub fuse_of : Option SetFuse → Fuse
fuse_of None = Unset
fuse_of (Some fuse) = Left fuse.calls

-- what a fuse makes of pending writes; 0 where none is set
abbrev pub image_of : Option SetFuse → ℕ
image_of None = 0
image_of (Some fuse) = fuse.image

-- the next call fails: the fuse has no call left, or the call has the number that is to fail
abbrev pub will_fail : Fuse → ℕ → ℕ → Bool
will_fail (Left zero) calls failing = true
will_fail (Left (suc n)) calls failing = failing == calls + 1
will_fail Unset calls failing = failing == calls + 1
will_fail Untold calls failing = failing == calls + 1

-- the number of the call that is to fail, 0 for none
abbrev pub failing_of : MemDisk → ℕ
failing_of disk = disk.failing
