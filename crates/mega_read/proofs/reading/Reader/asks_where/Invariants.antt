use Rattle.std.proofs.Common.{◌≡◌, map, take}
use Rattle.mega_read.specs.Catching.{where_to}
use Rattle.mega_read.proofs.reading.Reader.asks_where.Given as goal

abbrev pub invariant-loop-node : goal.invariant-loop-node
invariant-loop-node l = l.sends ≡ map (where_to l.self) (take l.node-index l.nodes)
