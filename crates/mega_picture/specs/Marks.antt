-- The marks of a tape: one for each item but the messages that are sent, which have arrows.
use Rattle.std.specs.Prelude.{ℕ, nat_lt, if◌then◌else◌, List, codes, Option, Some, None}
use Rattle.mega_wire.specs.declared.message.Message.{Message}
use Rattle.mega_transcript.specs.declared.item.Item.{Item}
use Rattle.mega_transcript.specs.declared.item.Item.TheVariants as items
use Rattle.mega_picture.specs.declared.item_line.ItemLine.{ItemLine}
use Rattle.mega_picture.specs.declared.journeys.Way.TheVariants as ways
use Rattle.mega_picture.specs.declared.marks.Shape.{Shape}
use Rattle.mega_picture.specs.declared.marks.Shape.TheVariants as shapes
use Rattle.mega_picture.specs.declared.marks.Place.{Place}
use Rattle.mega_picture.specs.declared.marks.Place.TheVariants.{Right, Left, Across}
use Rattle.mega_picture.specs.declared.marks.Mark.{Mark}
use Rattle.mega_picture.specs.Ways.{first_row, message_at}

-- the name of a shape in a page
abbrev pub word_of : Shape → List ℕ
word_of shapes.Start = codes "start"
word_of shapes.Unsent = codes "unsent"
word_of shapes.Tick = codes "tick"
word_of shapes.Begin = codes "begin"
word_of shapes.Taken = codes "taken"
word_of shapes.LostLeft = codes "lost-left"
word_of shapes.LostRight = codes "lost-right"
word_of shapes.Grant = codes "grant"
word_of shapes.Lapse = codes "lapse"
word_of shapes.Counts = codes "counts"
word_of shapes.Forgets = codes "forgets"
word_of shapes.Serving = codes "serving"
word_of shapes.Lost = codes "lost"
word_of shapes.Valid = codes "valid"
word_of shapes.Invalid = codes "invalid"
word_of shapes.Decide = codes "decide"
word_of shapes.Apply = codes "apply"
word_of shapes.Answer = codes "answer"
word_of shapes.Crash = codes "crash"
word_of shapes.Cut = codes "cut"
word_of shapes.Unsafe = codes "unsafe"

-- on the lane of the receiver, with the label away from the sender
abbrev pub side_of : Message → Place
side_of message = if nat_lt message.to message.from then Left message.to else Right message.to

abbrev pub arrival_of : Option Message → Place
arrival_of None = Across
arrival_of (Some message) = side_of message

-- where the mark stands of a message that is taken or dropped: on the lane of its receiver
abbrev pub arrival_at : List ItemLine → ℕ → Place
arrival_at told number = arrival_of (message_at told (first_row ways.Sent number told))

abbrev pub on_lane : ℕ → Shape → ℕ → Mark
on_lane node shape position = record { place = Right node; shape = shape; position = position }

abbrev pub across : Shape → Mark
across shape = record { place = Across; shape = shape; position = 0 }

abbrev pub taken_mark : Place → Mark
taken_mark place = record { place = place; shape = shapes.Taken; position = 0 }

-- a cross on the side from which the message would have come
abbrev pub dropped_mark : Place → Mark
dropped_mark (Left node) = record { place = Left node; shape = shapes.LostRight; position = 0 }
dropped_mark (Right node) = record { place = Right node; shape = shapes.LostLeft; position = 0 }
dropped_mark Across = across shapes.LostLeft

-- the mark of an item, on the lane of its node; grants and lapses are on that of the cell's node
abbrev pub mark_of : List ItemLine → Item → Option Mark
mark_of told (items.Sent number message) = None
mark_of told (items.Taken number) = Some (taken_mark (arrival_at told number))
mark_of told (items.Dropped number) = Some (dropped_mark (arrival_at told number))
mark_of told (items.Start node start) = Some (on_lane node.0 shapes.Start 0)
mark_of told (items.Unsent node message) = Some (on_lane node.0 shapes.Unsent 0)
mark_of told (items.Tick node now) = Some (on_lane node.0 shapes.Tick 0)
mark_of told (items.Begin op text) = Some (on_lane op.node.0 shapes.Begin 0)
mark_of told (items.Grant cell node epoch) = Some (on_lane cell shapes.Grant 0)
mark_of told (items.Lapse cell node epoch) = Some (on_lane cell shapes.Lapse 0)
mark_of told (items.Counts node cell epoch) = Some (on_lane node.0 shapes.Counts 0)
mark_of told (items.Forgets node cell epoch) = Some (on_lane node.0 shapes.Forgets 0)
mark_of told (items.Serving node epoch) = Some (on_lane node.0 shapes.Serving 0)
mark_of told (items.Lost node epoch) = Some (on_lane node.0 shapes.Lost 0)
mark_of told (items.Valid node group position) = Some (on_lane node.0 shapes.Valid 0)
mark_of told (items.Invalid node group position) = Some (on_lane node.0 shapes.Invalid 0)
mark_of told (items.Decide node group position entry) = Some (on_lane node.0 shapes.Decide position.0)
mark_of told (items.Apply node group position) = Some (on_lane node.0 shapes.Apply position.0)
mark_of told (items.Answer op answer) = Some (on_lane op.node.0 shapes.Answer 0)
mark_of told (items.Crash node) = Some (on_lane node.0 shapes.Crash 0)
mark_of told items.Cut = Some (across shapes.Cut)
mark_of told items.Unsafe = Some (across shapes.Unsafe)
