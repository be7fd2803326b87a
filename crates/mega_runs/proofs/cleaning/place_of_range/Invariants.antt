use Rattle.std.proofs.Common.{◌≡◌, ◌≤◌, ◌++◌, ◌-◌, ℕ, take, drop, length}
use Rattle.std.specs.Prelude.{map}
use Rattle.mega_runs.specs.Stores.{cleaned_of, with_cleaned}
use Rattle.mega_runs.proofs.cleaning.place_of_range.Given as goal

abbrev pub invariant-loop-place : goal.invariant-loop-place
invariant-loop-place l = record {
  within_all : l.place ≤ length l.cleanings;
  front : (below : ℕ) → with_cleaned l.from l.to below (map cleaned_of l.cleanings) ≡ map cleaned_of (take l.place l.cleanings) ++ with_cleaned l.from l.to below (map cleaned_of (drop l.place l.cleanings));
}

abbrev pub decreases-loop-place : goal.decreases-loop-place
decreases-loop-place l = length l.cleanings - l.place
