-- The lines of a window, and the page of what they tell.
use Rattle.std.proofs.Common.{◌≡◌, ℕ, ◌≤◌, List, [], length, take, drop, sym, ap, subst}
use Rattle.std.specs.Prelude.{Result, Ok, Err}
use Rattle.std.proofs.Math.ListN.{drop_of_length-le}
use Rattle.std.proofs.lemmas.List.{take_all}
use Rattle.picture.specs.declared.refusal.Refusal.{Refusal}
use Rattle.picture.specs.declared.stop.Stop.{Stop}
use Rattle.picture.specs.declared.stop.Stop.TheVariants.{Refused, Source, Sink, NoMemory}
use Rattle.picture.specs.Stops.{Gives}
use Rattle.picture.specs.Drawings.{◌>>=◌}

pub none_behind : (lines : List (List ℕ)) (count : ℕ) → length lines ≤ count → ◌≡◌ {A = List (List ℕ)} [] (drop count lines)
none_behind lines count le = sym (drop_of_length-le lines le)

pub all_before : (lines : List (List ℕ)) (count : ℕ) → length lines ≤ count → lines ≡ take count lines
all_before lines count le = sym (take_all count lines le)

-- a first part that was given, and then what goes on with it
pub after : {A B : Type 0} (first : Result A Refusal) (then : A → Result B Refusal) (x : A) (r : Result B Stop) → first ≡ Ok x → Gives r (then x) → Gives r (first >>= then)
after first then x r is gives = subst (λ f. Gives r (f >>= then)) (sym is) gives

-- a first part that stops
pub stopped : {A B : Type 0} (first : Result A Refusal) (then : A → Result B Refusal) (stop : Stop) → Gives {A = A} (Err stop) first → Gives {A = B} (Err stop) (first >>= then)
stopped first then (Refused refusal) gives = ap (λ f. f >>= then) gives
stopped first then Source gives = absurd gives
stopped first then Sink gives = absurd gives
stopped first then NoMemory gives = tt
