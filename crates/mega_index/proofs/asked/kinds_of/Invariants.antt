use Rattle.std.proofs.Common.{◌≡◌, ◌++◌, drop, ℕ}
use Rattle.std.specs.Prelude.{flat_map}
use Rattle.mega_index.specs.Fits.{numbered}
use Rattle.mega_index.specs.Finding.{kind_of}
use Rattle.mega_index.proofs.asked.kinds_of.Given as goal

abbrev pub invariant-loop-number : goal.invariant-loop-number
invariant-loop-number l =
    flat_map (λ (n : ℕ). kind_of (numbered l.properties n)) l.numbers
    ≡ l.kinds.items ++ flat_map (λ (n : ℕ). kind_of (numbered l.properties n)) (drop l.number-index l.numbers)
