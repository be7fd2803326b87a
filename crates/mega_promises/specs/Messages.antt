-- What a tape tells of the messages between the nodes.
use Rattle.std.specs.Prelude.{ℕ, ◌==◌, ◌&&◌, ◌||◌, Bool, true, false, not, if◌then◌else◌, List, [], ◌∷◌, find, Option, Some, None}
use Rattle.std.specs.List.{range_with_len}
use Rattle.mega_wire.specs.declared.message.Message.{Message}
use Rattle.mega_transcript.specs.declared.item.Item.{Item}
use Rattle.mega_transcript.specs.declared.item.Item.TheVariants.{Dropped, Sent, Unsafe}
use Rattle.mega_transcript.specs.Tape.{is_taken, sent_count}

-- the message of a number
abbrev pub message_of : List Item → ℕ → Option Message
message_of [] n = None
message_of (Sent number message ∷ before) n = if number == n then Some message else message_of before n
message_of (_ ∷ before) n = message_of before n

-- whether the message of a number was dropped
abbrev pub is_dropped : List Item → ℕ → Bool
is_dropped [] n = false
is_dropped (Dropped number ∷ before) n = (number == n) || is_dropped before n
is_dropped (_ ∷ before) n = is_dropped before n

-- leases were found to be unsafe
abbrev pub is_unsafe : List Item → Bool
is_unsafe [] = false
is_unsafe (Unsafe ∷ before) = true
is_unsafe (_ ∷ before) = is_unsafe before

-- a message can be delivered: it was neither taken nor dropped, and its receiver is up
abbrev pub receiver_up : (ℕ → Bool) → Option Message → Bool
receiver_up up None = false
receiver_up up (Some message) = up message.to

abbrev pub is_deliverable : (ℕ → Bool) → List Item → ℕ → Bool
is_deliverable up tape n = not (is_taken tape n) && not (is_dropped tape n) && receiver_up up (message_of tape n)

-- the least number of those
abbrev pub next_delivery : (ℕ → Bool) → List Item → Option ℕ
next_delivery up tape = find (is_deliverable up tape) (range_with_len 1 (sent_count tape))
