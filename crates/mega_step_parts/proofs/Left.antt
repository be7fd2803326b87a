-- What a test keeps of a list.
use Rattle.std.proofs.Common.{◌≡◌, ◌++◌, Bool, true, false, cond, List, [], ◌∷◌, filter, refl}

-- what a test keeps of a list is what it keeps of the first, before what it keeps of the rest
pub filter_first : {X : Type 0} (test : X → Bool) (x : X) (rest : List X) → filter test (x ∷ []) ++ filter test rest ≡ filter test (x ∷ rest)
filter_first {X} test x rest = go (test x)
  where
    go : (t : Bool) → cond t (x ∷ []) [] ++ filter test rest ≡ cond t (x ∷ filter test rest) (filter test rest)
    go true = refl
    go false = refl
