-- Handlers under the names of their queues.
use Rattle.std.specs.Prelude.{ℕ, ◌&&◌, Bool, List, [], ◌∷◌, find, position, is_some, Option, Some, None, option_map}
use Rattle.mega_entry.specs.declared.content.Enter.{Enter}
use Rattle.mega_index.specs.Rows.{Listed}
pub use Rattle.mega_index.specs.of_syntax.Names.{same as same_name}
use Rattle.mega_handler.specs.Effects.{Effect}

-- what a handler makes of a message and the rows of its group
abbrev pub Meaning : Type 0
Meaning = Enter → Listed → Effect

-- queues, and what their handlers make of messages
abbrev pub Meanings : Type 0
Meanings = List (List ℕ × Meaning)

-- the meaning of a queue's handler
abbrev pub meaning_of : Option (List ℕ × Meaning) → Option Meaning
meaning_of found = option_map (λ (one : List ℕ × Meaning). one.1) found

abbrev pub meaning : Meanings → List ℕ → Option Meaning
meaning all queue = meaning_of (find (λ (one : List ℕ × Meaning). same_name one.0 queue) all)

-- a queue has a handler
abbrev pub has : Meanings → List ℕ → Bool
has all queue = is_some (meaning all queue)

-- the effect of a meaning, empty where there is none
abbrev pub effect_by : Option Meaning → Meaning
effect_by None message rows = ([], [])
effect_by (Some makes) message rows = makes message rows

abbrev pub effect : Meanings → List ℕ → Meaning
effect all queue message rows = effect_by (meaning all queue) message rows
