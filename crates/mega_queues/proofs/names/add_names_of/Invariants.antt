use Rattle.std.proofs.Common.{take}
use Rattle.mega_queues.specs.Named.{AddsAll, names_of}
use Rattle.mega_queues.proofs.names.add_names_of.Given as goal

abbrev pub invariant-loop-message : goal.invariant-loop-message
invariant-loop-message l = AddsAll l.initial.names l.names (names_of (take l.message-index l.messages))
