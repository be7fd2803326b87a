-- What is asked for in the background.
use Rattle.std.specs.Prelude.{ℕ}
use Rattle.mega_base.specs.declared.names.GroupId.{GroupId}
use Rattle.mega_base.specs.declared.names.OpId.{OpId}
use Rattle.mega_wire.specs.declared.message.Message.{Message}
use Rattle.mega_wire.specs.declared.message.Body.TheVariants.{Fetch}

-- a node is asked for the entry at a position
abbrev pub fetch_message : OpId → ℕ → GroupId → ℕ → ℕ → Message
fetch_message op me group n to = record { from = me; to = to; body = Fetch op group (record { 0 = n }) }
