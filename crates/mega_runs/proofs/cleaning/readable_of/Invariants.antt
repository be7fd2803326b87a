use Rattle.std.proofs.Common.{◌≡◌, ◌++◌, length}
use Rattle.std.specs.Prelude.{map}
use Rattle.mega_runs.specs.Stores.{cleaned_of, readable}
use Rattle.mega_runs.proofs.cleaning.readable_of.Given as goal

abbrev pub invariant-loop-version : goal.invariant-loop-version
invariant-loop-version l = l.made.items ++ readable (map cleaned_of l.cleanings) l.rest ≡ readable (map cleaned_of l.cleanings) l.versions

abbrev pub decreases-loop-version : goal.decreases-loop-version
decreases-loop-version l = length l.rest
