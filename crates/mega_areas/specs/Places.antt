-- What writes to an area leave of a file.
use Rattle.std.specs.Prelude.{◌≡◌, ◌≢◌, ℕ, ◌+◌, ◌<◌, ◌≤◌, List, length, get_or}
use Rattle.mega_areas.specs.declared.area.Area.{Area}
use Rattle.mega_areas.specs.Pages.{offset}

-- writes to the area from this place on: all else that was there stays
pub record Keeps (area : Area) (from : ℕ) (old new : List ℕ) : Type 0 where
  pub longer : length old ≤ length new
  pub same : (i : ℕ) → i < length old → ((place : ℕ) → from ≤ place → offset area place ≢ i) → get_or new i 0 ≡ get_or old i 0

-- all of these images are kept so
abbrev pub AllKeep : Area → ℕ → List ℕ → (List ℕ → Type 0) → Type 0
AllKeep area from file images = (image : List ℕ) → images image → Keeps area from file image

-- these bytes stand in the area from this place on, and all else that was there stays
pub record Puts (area : Area) (place : ℕ) (bytes old new : List ℕ) : Type 0 where
  pub longer : length old ≤ length new
  pub there : (j : ℕ) → j < length bytes → get_or new (offset area (place + j)) 0 ≡ get_or bytes j 0
  pub same : (i : ℕ) → i < length old → ((j : ℕ) → j < length bytes → offset area (place + j) ≢ i) → get_or new i 0 ≡ get_or old i 0

-- one byte of the area is set, in a file that stays as long
pub record Sets (area : Area) (place byte : ℕ) (old new : List ℕ) : Type 0 where
  pub size : length new ≡ length old
  pub there : get_or new (offset area place) 0 ≡ byte
  pub same : (i : ℕ) → i < length old → offset area place ≢ i → get_or new i 0 ≡ get_or old i 0

-- or to any byte
abbrev pub SetsAny : Area → ℕ → List ℕ → List ℕ → Type 0
SetsAny area place old new = (byte : ℕ) × Sets area place byte old new
