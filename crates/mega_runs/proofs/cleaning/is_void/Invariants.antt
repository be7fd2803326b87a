use Rattle.std.proofs.Common.{◌≡◌, length}
use Rattle.std.specs.Prelude.{map, option_map}
use Rattle.mega_runs.specs.Stores.{cleaned_of, is_void}
use Rattle.mega_runs.proofs.cleaning.is_void.Given as goal

abbrev pub invariant-loop-cleaning : goal.invariant-loop-cleaning
invariant-loop-cleaning l = is_void (map cleaned_of l.rest) l.version (option_map (λ next. next.now) l.next) ≡ is_void (map cleaned_of l.cleanings) l.version (option_map (λ next. next.now) l.next)

abbrev pub decreases-loop-cleaning : goal.decreases-loop-cleaning
decreases-loop-cleaning l = length l.rest
