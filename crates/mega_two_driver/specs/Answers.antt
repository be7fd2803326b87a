-- What the calls answer.
use Rattle.std.specs.Prelude.{◌≡◌, ℕ, Result, Ok, Err}
use Rattle.mega_two_driver.specs.declared.fault.TwoFault.{TwoFault}
use Rattle.mega_two_driver.specs.declared.fault.TwoFault.TheVariants.{Refused, NoMemory}

-- the result, seen by view, is the answer, or the reason for which it is refused, unless memory ran out
abbrev pub Gives : {X A : Type 0} → (X → A) → Result X TwoFault → Result A ℕ → Type 0
Gives view (Ok x) answer = answer ≡ Ok (view x)
Gives view (Err NoMemory) answer = Unit {0}
Gives view (Err (Refused reason)) answer = answer ≡ Err reason

abbrev pub GivesOrReason : {A : Type 0} → Result A TwoFault → Result A ℕ → Type 0
GivesOrReason result answer = Gives (λ x. x) result answer
