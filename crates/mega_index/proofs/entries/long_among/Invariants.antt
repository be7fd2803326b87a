use Rattle.std.proofs.Common.{◌≡◌, map, drop}
use Rattle.mega_keys.specs.Spelling.{index_bytes}
use Rattle.mega_index.specs.Fits.{first_long}
use Rattle.mega_index.proofs.entries.long_among.Given as goal

abbrev pub invariant-loop-choice : goal.invariant-loop-choice
invariant-loop-choice l =
    first_long (map (λ choice. index_bytes l.number l.prefix choice l.key) l.chosen)
    ≡ first_long (map (λ choice. index_bytes l.number l.prefix choice l.key) (drop l.choice-index l.chosen))
