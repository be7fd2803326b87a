-- From the exact answer of a call to what it tells.
use Rattle.std.proofs.Common.{◌≡◌, subst, Result, Ok, Err}
use Rattle.std.specs.Prelude.{IfOk}
use Rattle.mega_keys.specs.declared.fault.KeyFault.{KeyFault}
use Rattle.mega_keys.specs.Answers.{Gives}

-- what holds wherever the answer is Ok holds of the result
pub found_by : {A : Type 0} (result answer : Result A KeyFault) (P : A → Type 0) → Gives result answer → ((x : A) → answer ≡ Ok x → P x) → IfOk result P
found_by (Ok x) answer P h by = by x h
found_by (Err e) answer P h by = tt

pub given_by : {A : Type 0} (result answer other : Result A KeyFault) → Gives result answer → answer ≡ other → Gives result other
given_by {A} result answer other h e = let P : Result A KeyFault → Type 0 = λ a. Gives result a in subst P e h
