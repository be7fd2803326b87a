-- Messages of which their sender's voter keeps nothing.
use Rattle.std.specs.Prelude.{◌≡◌, None}
use Rattle.mega_wire.specs.declared.message.Message.{Message}
use Rattle.mega_voter.specs.Journal.{item_in}

-- the message is neither a promise nor a vote
abbrev pub Asks : Message → Type 0
Asks m = item_in m.body ≡ None
