use Rattle.std.proofs.Common.{drop}
use Rattle.std.specs.List.{All}
use Rattle.mega_wire.specs.Messages.{IsMessage}
use Rattle.mega_well_formed.proofs.Deciding.{Decides}
use Rattle.mega_server.proofs.forming.are_messages.Given as goal

abbrev pub invariant-loop-message : goal.invariant-loop-message
invariant-loop-message l = Decides (All IsMessage (drop l.message-index l.messages)) (All IsMessage l.messages)
