-- What a memory device keeps of the changes since its last sync, and the images that they allow.
use Rattle.std.specs.Prelude.{◌≡◌, ◌⊎◌, ℕ, zero, suc, ◌+◌, ◌==◌, List, [], ◌∷◌, ◌++◌, length, take, if◌then◌else◌, nat_le}
use Rattle.mega_disk.specs.Images.{overwritten, Torn, Cut}
use Rattle.mega_disk.specs.declared.changes.Change.{Change}
use Rattle.mega_disk.specs.declared.changes.Held.{Held}
use Rattle.mega_disk.specs.declared.changes.Change.TheVariants.{Written, Shortened}

-- the content with the byte a5 at each place of this range that it has
abbrev pub filled : ℕ → ℕ → List ℕ → List ℕ
filled at count [] = []
filled zero zero (x ∷ content) = x ∷ content
filled zero (suc count) (x ∷ content) = 165 ∷ filled zero count content
filled (suc at) count (x ∷ content) = x ∷ filled at count content

-- the content before a change, from that after it
abbrev pub undone : Change → List ℕ → List ℕ
undone (Written at count before size) content = if nat_le (at + length before.items) (length (take size content)) then overwritten at before.items (take size content) else take size content
undone (Shortened size whole) content = whole.items

-- the content before all of the changes, the oldest first
abbrev pub all_undone : List Change → List ℕ → List ℕ
all_undone [] content = content
all_undone (change ∷ changes) content = undone change (all_undone changes content)

-- the content with each written range filled
abbrev pub fill_change : Change → List ℕ → List ℕ
fill_change (Written at count before size) content = filled at count content
fill_change (Shortened size whole) content = content

abbrev pub all_filled : List Change → List ℕ → List ℕ
all_filled [] content = content
all_filled (change ∷ changes) content = all_filled changes (fill_change change content)

-- what a change may leave of an image
abbrev pub IsStep : Change → List ℕ → List ℕ → Type 0
IsStep (Written at count before size) old new = Torn at count old new
IsStep (Shortened size whole) old new = Cut size old new

-- an image after these changes, the oldest first
abbrev pub IsImage : List ℕ → List Change → List ℕ → Type 0
IsImage start [] image = image ≡ start
IsImage start (change ∷ changes) image = (mid : List ℕ) × IsStep change start mid × IsImage mid changes image

-- all that a crash may leave: the content, the content with each written range filled, or what was there at the
-- last sync after each change was torn
abbrev pub MayLeave : List Change → List ℕ → List ℕ → Type 0
MayLeave changes content image = (image ≡ content) ⊎ ((image ≡ all_filled changes content) ⊎ IsImage (all_undone changes content) changes image)

-- what is left of the content where the fuse burns
abbrev pub burnt_content : ℕ → List Change → List ℕ → List ℕ
burnt_content image changes content = if image == 0 then all_undone changes content else (if image == 1 then content else all_filled changes content)

-- one change joins those that were there
abbrev pub AddsChange : List Change → (Change → Type 0) → List Change → Type 0
AddsChange old IsIt new = (change : Change) × IsIt change × (new ≡ old ++ change ∷ [])

-- the change is a write of so many bytes there, and undoing it gives the old content
abbrev pub IsWrite : ℕ → ℕ → List ℕ → List ℕ → Change → Type 0
IsWrite at count old new (Written place written before size) = (place ≡ at) × (written ≡ count) × (undone (Written place written before size) new ≡ old)
IsWrite at count old new (Shortened size whole) = ⊥

-- the change is a cut to this size, and undoing it gives the old content
abbrev pub IsCut : ℕ → List ℕ → Change → Type 0
IsCut size old (Shortened kept whole) = (kept ≡ size) × (whole.items ≡ old)
IsCut size old (Written place written before was) = ⊥

-- what a crash may leave of what is held
abbrev pub LeftBy : Held → List ℕ → Type 0
LeftBy held = MayLeave held.changes.items held.content.items
