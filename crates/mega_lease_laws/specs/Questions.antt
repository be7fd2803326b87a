-- Messages that a node sends of its own accord: those of its operations, and what it tells of decisions. What it asks the cells for is apart; all others
-- are replies.
use Rattle.std.specs.Prelude.{◌≡◌, Bool, true, false}
use Rattle.mega_wire.specs.declared.message.Message.{Message}
use Rattle.mega_wire.specs.declared.message.Body.{Body}
use Rattle.mega_wire.specs.declared.message.Body.TheVariants.{Where, Top, Accept, Accepted, Refused, Prepare, Promise, Invalidate, Invalidated, Dead, Held, Unheld, Decide, Fetch, Have, HaveNot, Acquire, Granted, Past, Request, Reply}

abbrev pub is_question : Body → Bool
is_question (Where op group) = true
is_question (Accept op group position ballot entry) = true
is_question (Prepare op group position ballot) = true
is_question (Invalidate op group position) = true
is_question (Dead op cell node) = true
is_question (Decide group position entry) = true
is_question (Fetch op group position) = true
is_question (Acquire cell epoch clock) = false
is_question (Top op group position) = false
is_question (Accepted op group position ballot entry) = false
is_question (Refused op group position asked shown entry) = false
is_question (Promise op group position ballot accepted) = false
is_question (Invalidated op group position) = false
is_question (Held op cell node) = false
is_question (Unheld op cell node) = false
is_question (Have op group position entry) = false
is_question (HaveNot op group position) = false
is_question (Granted cell epoch clock) = false
is_question (Past cell asked greatest) = false
is_question (Request token json) = false
is_question (Reply token text) = false

abbrev pub Asks : Message → Type 0
Asks m = is_question m.body ≡ true
