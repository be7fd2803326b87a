-- Which messages wait for nodes that are up, and to whom a message goes.
use Rattle.std.specs.Prelude.{ℕ, zero, suc, ◌==◌, ◌&&◌, ◌||◌, Bool, false, List, Option, Some, None}
use Rattle.std.specs.BTreeSet.{BTreeSet}
use Rattle.mega_wire.specs.declared.message.Message.{Message}
use Rattle.mega_places.specs.declared.place.Place.{Place}
use Rattle.mega_places.specs.Members.{is_up_at}
use Rattle.mega_verdicts.specs.Waiting.{waits_for}

-- one of the first nodes is up, and this message waits for it
abbrev pub waits_among : List (BTreeSet ℕ) → List Place → ℕ → ℕ → Bool
waits_among waiting places zero n = false
waits_among waiting places (suc count) n = waits_among waiting places count n || (is_up_at places (suc count) && waits_for waiting (suc count) n)

-- a message goes to this receiver
abbrev pub goes_to : Option Message → ℕ → Bool
goes_to None to = false
goes_to (Some message) to = message.to == to

-- the receiver of a message
abbrev pub receiver_of : Option Message → Option ℕ
receiver_of None = None
receiver_of (Some message) = Some message.to
