-- Texts that are put together, one for each number from 0 on.
use Rattle.std.specs.Prelude.{ℕ, zero, suc, List, [], ◌++◌}

abbrev pub all_to : (ℕ → List ℕ) → ℕ → List ℕ
all_to text zero = []
all_to text (suc n) = all_to text n ++ text n
