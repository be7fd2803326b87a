use Rattle.std.proofs.Common.{◌≡◌, ◌++◌, drop}
use Rattle.mega_index.specs.Fits.{extended}
use Rattle.mega_index.proofs.choices.extended.Given as goal

abbrev pub invariant-loop-choice : goal.invariant-loop-choice
invariant-loop-choice l = extended l.chosen l.values ≡ l.longer.items ++ extended (drop l.choice-index l.chosen) l.values
