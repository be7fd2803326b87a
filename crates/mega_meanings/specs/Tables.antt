-- What a table of handlers makes of messages.
use Rattle.std.specs.Prelude.{ℕ, List, map, Option, option_map}
use Rattle.std.specs.Ordering.{nat_cmp}
use Rattle.std.specs.Cmp.Lexicographic.{slice_cmp}
use Rattle.std.specs.BTreeMap.{BTreeMap, get}
use Rattle.mega_handler.specs.Named.{Meaning, Meanings}

module _ {B : Type 0} where
  -- what the handler under a queue's name makes of them, where one stands there
  abbrev pub made_in : (B → Meaning) → BTreeMap (List ℕ) B → List ℕ → Option Meaning
  made_in effect named queue = option_map effect (get (slice_cmp nat_cmp) named queue)

  -- the meanings that the table spells, in the order of its queues
  abbrev pub spelled : (B → Meaning) → BTreeMap (List ℕ) B → Meanings
  spelled effect named = map (λ (one : List ℕ × B). (one.0, effect one.1)) named.entries
