-- The arrows of a tape: one for each item that sends a message, and a thin one for each later taking of it.
use Rattle.std.specs.Prelude.{ℕ, ◌==◌, Bool, false, if◌then◌else◌, List, Option, Some, None}
use Rattle.mega_wire.specs.declared.message.Message.{Message}
use Rattle.mega_transcript.specs.declared.item.Item.{Item}
use Rattle.mega_transcript.specs.declared.item.Item.TheVariants as items
use Rattle.mega_picture.specs.declared.item_line.ItemLine.{ItemLine}
use Rattle.mega_picture.specs.declared.journeys.Way.TheVariants.{Sent, Taken, Dropped}
use Rattle.mega_picture.specs.declared.arrows.End.{End}
use Rattle.mega_picture.specs.declared.arrows.End.TheVariants as ends
use Rattle.mega_picture.specs.declared.arrows.Arrow.{Arrow}
use Rattle.mega_picture.specs.Kinds.{position_of}
use Rattle.mega_picture.specs.Ways.{first_row, message_at}

-- an arrow ends where its message is first taken; else in a cross where it is dropped; else it fades out
abbrev pub end_by : Option ℕ → Option ℕ → End
end_by (Some row) dropped = ends.Taken row
end_by None (Some row) = ends.Dropped row
end_by None None = ends.Fades

abbrev pub end_of : List ItemLine → ℕ → End
end_of told number = end_by (first_row Taken number told) (first_row Dropped number told)

abbrev pub arrow_with : Message → ℕ → End → Arrow
arrow_with message row end =
    record { position = position_of message.body; from = message.from; to = message.to; row = row; end = end }

-- the thin arrow of a message that was sent in a row and is taken again in another
abbrev pub again_with : ℕ → Option ℕ → Option Message → Option Arrow
again_with row (Some sent) (Some message) = Some (arrow_with message sent (ends.Again row))
again_with row _ _ = None

-- whether this row is the one
abbrev pub is_row : Option ℕ → ℕ → Bool
is_row None row = false
is_row (Some first) row = first == row

abbrev pub again_of : List ItemLine → ℕ → ℕ → Option Arrow
again_of told row number =
    if is_row (first_row Taken number told) row then None
    else again_with row (first_row Sent number told) (message_at told (first_row Sent number told))

-- the arrow that an item in a row has
abbrev pub arrow_of : List ItemLine → ℕ → Item → Option Arrow
arrow_of told row (items.Sent number message) = Some (arrow_with message row (end_of told number))
arrow_of told row (items.Taken number) = again_of told row number
arrow_of told row _ = None
