-- The items that a tape shows of what a node met, made and noted.
use Rattle.std.specs.Prelude.{ℕ, ◌+◌, List, [], ◌∷◌}
use Rattle.mega_base.specs.declared.names.NodeId.{NodeId}
use Rattle.mega_wire.specs.declared.message.Message.{Message}
use Rattle.mega_transcript.specs.declared.item.Item.{Item}
use Rattle.mega_transcript.specs.declared.item.Item.TheVariants.{Start, Unsent, Tick, Begin, Sent, Grant, Lapse, Counts as CountsItem, Forgets as ForgetsItem, Serving, Lost, Valid, Invalid, Decide, Apply, Answer, Crash}
use Rattle.mega_rules.specs.Met.{Met, Starts, Crashes, Ticks, Begins, Unsends, Grants, Lapses, Counts, Forgets, Serves, Loses, Validates, Invalidates, Decides, Applies, Answers}

abbrev pub number : ℕ → NodeId
number node = record { 0 = node }

-- the item of what a node noted; what it takes and sends is shown by the messages' numbers, which the run gives
abbrev pub shown : ℕ → Met → List Item
shown me (Starts start) = Start (number me) start ∷ []
shown me Crashes = Crash (number me) ∷ []
shown me (Ticks now) = Tick (number me) now ∷ []
shown me (Begins op text) = Begin op text ∷ []
shown me (Unsends message) = Unsent (number me) message ∷ []
shown me (Grants node epoch) = Grant me (number node) epoch ∷ []
shown me (Lapses node epoch) = Lapse me (number node) epoch ∷ []
shown me (Counts cell epoch) = CountsItem (number me) cell epoch ∷ []
shown me (Forgets cell epoch) = ForgetsItem (number me) cell epoch ∷ []
shown me (Serves epoch) = Serving (number me) epoch ∷ []
shown me (Loses epoch) = Lost (number me) epoch ∷ []
shown me (Validates group position) = Valid (number me) group (record { 0 = position }) ∷ []
shown me (Invalidates group position) = Invalid (number me) group (record { 0 = position }) ∷ []
shown me (Decides group position entry) = Decide (number me) group (record { 0 = position }) entry ∷ []
shown me (Applies group position) = Apply (number me) group (record { 0 = position }) ∷ []
shown me (Answers op answer) = Answer op answer ∷ []
shown me _ = []

-- what is sent, numbered from the next number on
abbrev pub numbered : ℕ → List Message → List Item
numbered n [] = []
numbered n (message ∷ messages) = Sent n message ∷ numbered (n + 1) messages
