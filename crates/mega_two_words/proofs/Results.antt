-- Clauses on what a last call answers.
use Rattle.std.proofs.Common.{◌≡◌, Bool, true, false, List, Option, Some, None, ℕ, Result, Ok, Err}
use Rattle.std.specs.Prelude.{IfOk}
use Rattle.mega_header.specs.Known.{IfKnown}

pub if_ok_then : {X E : Type 0} (r : Result X E) (P Q : X → Type 0) → ((x : X) → P x → Q x) → IfOk r P → IfOk r Q
if_ok_then (Ok x) P Q more held = more x held
if_ok_then (Err e) P Q more held = tt

pub told_so : (known : Option (List ℕ)) (IsSo More : List ℕ → Type 0) → ((input : List ℕ) → IsSo input → More input) → IfKnown known IsSo → IfKnown known More
told_so None IsSo More so told = tt
told_so (Some input) IsSo More so told = so input told

pub if_ok_by : {X E : Type 0} (marked : Bool) (r : Result X E) (P Q R : X → Type 0) → (marked ≡ true → IfOk r P) → (marked ≡ false → IfOk r Q) → ((x : X) → (marked ≡ true → P x) → (marked ≡ false → Q x) → R x) → IfOk r R
if_ok_by marked (Ok x) P Q R one two join = join x one two
if_ok_by marked (Err e) P Q R one two join = tt
