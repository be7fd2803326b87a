-- What putting versions leaves of the store that holds them.
use Rattle.std.specs.Prelude.{◌≡◌, ℕ}
use Rattle.mega_disk.specs.Images.{SameImages}
use Rattle.mega_disk.specs.declared.versions.Versions.{Ghosts}

-- nothing but the versions changed
pub record OnlyPuts {V : Type 0} (store : Ghosts V) (old new : V) : Type 0 where
  pub cleaned : store.cleaned new ≡ store.cleaned old
  pub marks : store.marked new ≡ store.marked old
  pub same : SameImages store.moment store.may_open store.opened_since old new
  pub faults : store.faults new ≡ store.faults old
  pub fuse : store.fuse_left new ≡ store.fuse_left old
  pub by_fuse : store.fails_by_fuse new ≡ store.fails_by_fuse old
  pub bad_stays : (n : ℕ) → store.is_bad new n → store.is_bad old n
