-- How the messages between the nodes stand to the tape of what happened.
use Rattle.std.specs.Prelude.{◌≡◌, ℕ, ◌-◌, ◌==◌, ◌&&◌, Bool, true, not, if◌then◌else◌, List, length, Option, None}
use Rattle.std.specs.List.{slice_get}
use Rattle.std.specs.Ordering.{nat_cmp}
use Rattle.std.specs.BTreeSet.{contains}
use Rattle.mega_wire.specs.declared.message.Message.{Message}
use Rattle.mega_transcript.specs.declared.item.Item.{Item}
use Rattle.mega_transcript.specs.Tape.{is_sent, is_taken, sent_count}
use Rattle.mega_promises.specs.Messages.{is_dropped, message_of}
use Rattle.mega_places.specs.declared.mail.Mail.{Mail}
use Rattle.mega_places.specs.Waits.{goes_to}
use Rattle.mega_verdicts.specs.Waiting.{waits_for}

-- the message of a number, counted from 1
abbrev pub message_at : List Message → ℕ → Option Message
message_at messages n = if n == 0 then None else slice_get messages (n - 1)

-- a message was sent, and neither taken nor dropped
abbrev pub is_waiting : List Item → ℕ → Bool
is_waiting tape n = is_sent tape n && not (is_taken tape n) && not (is_dropped tape n)

-- what is carried is what the tape tells: all that was sent, what waits of it, by receiver, and what was dropped
pub record Carries (mail : Mail) (tape : List Item) : Type 0 where
  pub sent : sent_count tape ≡ length mail.messages
  pub messages : (n : ℕ) → message_of tape n ≡ message_at mail.messages n
  pub waiting : (to n : ℕ) → waits_for mail.waiting.items to n ≡ (is_waiting tape n && goes_to (message_of tape n) to)
  pub dropped : (n : ℕ) → contains nat_cmp mail.dropped n ≡ is_dropped tape n
  pub taken_sent : (n : ℕ) → is_taken tape n ≡ true → is_sent tape n ≡ true
  pub dropped_sent : (n : ℕ) → is_dropped tape n ≡ true → is_sent tape n ≡ true
