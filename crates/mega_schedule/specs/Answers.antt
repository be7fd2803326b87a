-- What the call answers.
use Rattle.std.specs.Prelude.{◌≡◌, ℕ, Result, Ok, Err}
use Rattle.mega_schedule.specs.declared.world_event.LineFault.{LineFault}
use Rattle.mega_schedule.specs.declared.world_event.LineFault.TheVariants.{Refused, NoMemory}

-- the result, seen by view, is the answer, or the reason for which the line is refused, unless memory ran out
abbrev pub Gives : {X A : Type 0} → (X → A) → Result X LineFault → Result A ℕ → Type 0
Gives view (Ok x) answer = answer ≡ Ok (view x)
Gives view (Err NoMemory) answer = Unit {0}
Gives view (Err (Refused reason)) answer = answer ≡ Err reason

abbrev pub GivesOrReason : {A : Type 0} → Result A LineFault → Result A ℕ → Type 0
GivesOrReason result answer = Gives (λ x. x) result answer
