-- The room that a text leaves.
use Rattle.std.specs.Prelude.{ℕ, ◌-◌, ◌≤◌, List, length, Option, SomeIff}

-- what is left of so many bytes behind a text; none where it is not of its format, or longer
abbrev pub Leaves : Type 0 → List ℕ → ℕ → Option ℕ → Type 0
Leaves IsFormed text room left = SomeIff left (IsFormed × (length text ≤ room)) (room - length text)
