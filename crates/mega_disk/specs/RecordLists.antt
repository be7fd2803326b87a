-- Lists of records, over crashes.
use Rattle.std.specs.Prelude.{◌≡◌, ◌⊎◌, ℕ, List, [], ◌∷◌, ◌++◌}

-- the records, with one more behind them or without it
abbrev pub IsBeforeOrAfter : List (List ℕ) → List ℕ → List (List ℕ) → Type 0
IsBeforeOrAfter records body found = (found ≡ records) ⊎ (found ≡ records ++ body ∷ [])

-- the records, or this one in place of all of them
abbrev pub IsOldOrReplaced : List (List ℕ) → List ℕ → List (List ℕ) → Type 0
IsOldOrReplaced records body found = (found ≡ records) ⊎ (found ≡ body ∷ [])
