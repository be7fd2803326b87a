-- Files of records, one behind another: their bodies, by what stands at the front of a file.
use Rattle.std.specs.Prelude.{ℕ, zero, suc, List, [], ◌∷◌, length, get_or, Bool, not, nat_lt, ◌==◌, ◌&&◌, Option, Some, None}

-- the body, and those in what is behind it
abbrev pub body_and : (List ℕ → List (List ℕ)) → Option (List ℕ × List ℕ) → List (List ℕ)
body_and bodies None = []
body_and bodies (Some (body, rest)) = body ∷ bodies rest

-- the bodies of the records up to where none stands at the front, of at most so many records
abbrev pub bodies_by : (List ℕ → Option (List ℕ × List ℕ)) → ℕ → List ℕ → List (List ℕ)
bodies_by first zero file = []
bodies_by first (suc n) file = body_and (λ rest. bodies_by first n rest) (first file)

-- a file of more than one byte has a closed gate there
abbrev pub is_shut : List ℕ → ℕ → Bool
is_shut file end = nat_lt 1 (length file) && not (get_or file end 1 == 1)
