-- What the calls answer.
use Rattle.std.specs.Prelude.{◌≡◌, ℕ, Result, Ok, Err}
use Rattle.mega_index.specs.declared.fault.IndexFault.{IndexFault}
use Rattle.mega_index.specs.declared.fault.IndexFault.TheVariants.{Kind, TooLong, NoMemory}

-- the call gave the answer, or the length for which it is refused, unless memory ran out
abbrev pub GivesOrLength : {X A : Type 0} → (X → A) → Result X IndexFault → Result A ℕ → Type 0
GivesOrLength view (Ok x) answer = answer ≡ Ok (view x)
GivesOrLength view (Err NoMemory) answer = Unit {0}
GivesOrLength view (Err (TooLong n)) answer = answer ≡ Err n
GivesOrLength view (Err (Kind place)) answer = ⊥

-- the call gave the answer, or the place of the value for which it is refused, unless memory ran out
abbrev pub GivesOrPlace : {X A : Type 0} → (X → A) → Result X IndexFault → Result A ℕ → Type 0
GivesOrPlace view (Ok x) answer = answer ≡ Ok (view x)
GivesOrPlace view (Err NoMemory) answer = Unit {0}
GivesOrPlace view (Err (TooLong n)) answer = ⊥
GivesOrPlace view (Err (Kind place)) answer = answer ≡ Err place
