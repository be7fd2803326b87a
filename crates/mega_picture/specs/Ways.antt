-- What happens to messages on the lines drawn.
use Rattle.std.specs.Prelude.{ℕ, ◌==◌, Bool, false, List, Option, Some, None, slice_get}
use Rattle.std.specs.List.{position_from}
use Rattle.mega_wire.specs.declared.message.Message.{Message}
use Rattle.mega_transcript.specs.declared.item.Item.{Item}
use Rattle.mega_transcript.specs.declared.item.Item.TheVariants as items
use Rattle.mega_picture.specs.declared.item_line.ItemLine.{ItemLine}
use Rattle.mega_picture.specs.declared.journeys.Way.{Way}
use Rattle.mega_picture.specs.declared.journeys.Way.TheVariants.{Sent, Taken, Dropped}

-- the number of the message to which this happens in an item
abbrev pub number_on : Way → Item → Option ℕ
number_on Sent (items.Sent number message) = Some number
number_on Taken (items.Taken number) = Some number
number_on Dropped (items.Dropped number) = Some number
number_on _ _ = None

abbrev pub is_number : ℕ → Option ℕ → Bool
is_number n None = false
is_number n (Some number) = number == n

-- whether this happens to the message of this number on a line
abbrev pub happens : Way → ℕ → ItemLine → Bool
happens way n told = is_number n (number_on way told.item)

-- the first row in which it does, counted from 0
abbrev pub first_row : Way → ℕ → List ItemLine → Option ℕ
first_row way n told = position_from (happens way n) 0 told

-- the message that an item sends
abbrev pub message_of : Item → Option Message
message_of (items.Sent number message) = Some message
message_of _ = None

abbrev pub message_in : Option ItemLine → Option Message
message_in None = None
message_in (Some told) = message_of told.item

-- the message that is sent in a row
abbrev pub message_at : List ItemLine → Option ℕ → Option Message
message_at told None = None
message_at told (Some row) = message_in (slice_get told row)
