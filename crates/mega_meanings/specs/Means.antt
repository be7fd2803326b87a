-- What the handlers of queues mean.
use Rattle.std.specs.Prelude.{◌≡◌, ℕ, List, Option}
use Rattle.mega_handler.specs.Named.{Meaning, Meanings, meaning}

-- these meanings are those, for every queue
pub record Means (makes : List ℕ → Option Meaning) (h : Meanings) : Type 0 where
  pub each : (queue : List ℕ) → meaning h queue ≡ makes queue
