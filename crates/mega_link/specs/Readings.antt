-- The readings of a clock in memory.
use Rattle.mega_link.specs.declared.clock.TheConstants.{LATEST}
use Rattle.std.specs.Prelude.{◌≡◌, ℕ, ◌+◌, ◌≤◌, ◌<◌, List, length, slice_index, All}

-- no reading is below the one before it
abbrev pub NeverFalls : List ℕ → Type 0
NeverFalls readings = (i : ℕ) → i + 1 < length readings → slice_index readings i ≤ slice_index readings (i + 1)

-- a clock that gave the first so many readings, and so many times the last of them
pub record IsCourse (readings : List ℕ) (index extra last : ℕ) : Type 0 where
  pub within : index ≤ length readings
  pub whole : index < length readings → extra ≡ 0
  pub begins : index ≡ 0 → last ≡ 0
  pub goes_on : (i : ℕ) → index ≡ i + 1 → last ≡ slice_index readings i
  pub never_falls : NeverFalls readings
  pub latest : All (λ reading. reading ≤ LATEST) readings
