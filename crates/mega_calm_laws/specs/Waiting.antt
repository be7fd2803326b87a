-- A message waits on a tape: it was sent, and was neither taken nor dropped.
use Rattle.std.specs.Prelude.{◌≡◌, ℕ, ◌≤◌, ◌<◌, false, List, Some}
use Rattle.mega_wire.specs.declared.message.Message.{Message}
use Rattle.mega_leased_laws.specs.of_run_laws.of_tape_laws.of_promises.of_transcript.declared.item.Item.{Item}
use Rattle.mega_leased_laws.specs.of_run_laws.of_tape_laws.of_promises.of_transcript.Tape.{is_taken, sent_count}
use Rattle.mega_leased_laws.specs.of_run_laws.of_tape_laws.of_promises.Messages.{is_dropped, message_of}

pub record Waits (tape : List Item) (number : ℕ) (message : Message) : Type 0 where
  pub above : 1 ≤ number
  pub within : number ≤ sent_count tape
  pub sent : message_of tape number ≡ Some message
  pub untaken : is_taken tape number ≡ false
  pub undropped : is_dropped tape number ≡ false

-- some message is the one
pub record IsAwaited (tape : List Item) (message : Message) : Type 0 where
  pub number : ℕ
  pub waits : Waits tape number message

-- messages have the numbers from 1 on, and only these were taken or dropped
pub record IsNumbered (tape : List Item) : Type 0 where
  pub untaken : (k : ℕ) → sent_count tape < k → is_taken tape k ≡ false
  pub undropped : (k : ℕ) → sent_count tape < k → is_dropped tape k ≡ false
  pub there : (k : ℕ) → 1 ≤ k → k ≤ sent_count tape → (m : Message) × (message_of tape k ≡ Some m)
