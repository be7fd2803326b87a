use Rattle.std.proofs.Common.{take}
use Rattle.mega_queues.specs.Named.{AddsAll}
use Rattle.mega_queues.proofs.names.add_all.Given as goal

abbrev pub invariant-loop-name : goal.invariant-loop-name
invariant-loop-name l = AddsAll l.initial.names l.names (take l.name-index l.more)
