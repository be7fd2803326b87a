-- What is said of the input where its bytes are told.
use Rattle.std.specs.Prelude.{◌≡◌, ℕ, List, Option, None, Some, Ok, Err, IfSome}
use Rattle.picture.specs.declared.refusal.Refusal.{Refusal}
use Rattle.picture.specs.declared.words.Window.{Window}
use Rattle.picture.specs.Drawings.{drawing_of}

-- this is the whole input
abbrev pub IsWhole : Option (List ℕ) → List ℕ → Type 0
IsWhole known text = IfSome known (λ input. text ≡ input)

-- the input has a page, and this is said of it
abbrev pub HasPage : Window → Option (List ℕ) → (List ℕ → Type 0) → Type 0
HasPage window known Says = IfSome known (λ input. (page : List ℕ) × (drawing_of window input ≡ Ok page) × Says page)

-- the input is refused for this reason
abbrev pub IsRefused : Window → Option (List ℕ) → Refusal → Type 0
IsRefused window known refusal = IfSome known (λ input. drawing_of window input ≡ Err refusal)

-- the words ask for a window of which this is so
abbrev pub Asks : Option Window → (Window → Type 0) → Type 0
Asks None Says = ⊥
Asks (Some window) Says = Says window
