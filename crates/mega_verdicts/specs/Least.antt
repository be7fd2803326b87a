-- The least number that passes a test.
use Rattle.std.specs.Prelude.{◌≡◌, ◌<◌, ℕ, Bool, true, false, Option, Some, None}

-- this is the least number that passes, or none passes
abbrev pub IsLeast : (ℕ → Bool) → Option ℕ → Type 0
IsLeast passes None = (n : ℕ) → passes n ≡ false
IsLeast passes (Some least) = (passes least ≡ true) × ((n : ℕ) → n < least → passes n ≡ false)
