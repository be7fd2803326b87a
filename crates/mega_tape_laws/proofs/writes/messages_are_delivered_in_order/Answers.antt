use Rattle.mega_tape_laws.proofs.Sending.{messages}
use Rattle.mega_tape_laws.proofs.writes.messages_are_delivered_in_order.Goals as goal

pub returns : goal.returns
returns c = messages
