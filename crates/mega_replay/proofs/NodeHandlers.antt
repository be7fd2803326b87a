-- The handlers that the store brings, by what they make of messages.
use Rattle.std.proofs.Common.{◌≡◌, ℕ, List, Option, sym}
use Rattle.mega_handler.specs.Named.{Meaning, meaning}
use Rattle.mega_meanings.specs.BuiltIn.{built_in}
use Rattle.mega_meanings.specs.Means.{Means}

pub built_mean : (makes : List ℕ → Option Meaning) → makes ≡ meaning built_in → Means makes built_in
built_mean makes same = record { each = λ queue i. sym same i queue }
