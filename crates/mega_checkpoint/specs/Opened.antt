-- The lists of records that images open to.
use Rattle.std.specs.Prelude.{◌≡◌, ℕ, List}
use Rattle.std.proofs.Common.{◌∙◌, ap}
use Rattle.mega_disk.specs.Images.{Only}
use Rattle.mega_checkpoint.specs.declared.checkpoint.Checkpoint.{Checkpoint}
use Rattle.mega_checkpoint.specs.Format.{list_of}

-- the device that a store stands on
abbrev pub disk_of : {D : Type 0} {g : _} → Checkpoint D g → D
disk_of store = store.disk

-- the list of one of these images
abbrev pub Opens : (List ℕ → Type 0) → List (List ℕ) → Type 0
Opens images found = (image : List ℕ) × images image × (found ≡ list_of image)

pub opens_only : (file : List ℕ) (images : List ℕ → Type 0) → Only file images → Only (list_of file) (Opens images)
opens_only file images only found (image, left, is) = is ∙ ap list_of (only image left)

pub opened_now : (images others : List ℕ → Type 0) (found : List (List ℕ)) → ((image : List ℕ) → images image → others image) → Opens images found → Opens others found
opened_now images others found all (image, left, is) = (image, all image left, is)
