use Rattle.std.proofs.Common.{◌≡◌, map, take}
use Rattle.mega_read.specs.Catching.{fetch_to}
use Rattle.mega_read.proofs.reading.Reader.asks_for.Given as goal

abbrev pub invariant-loop-node : goal.invariant-loop-node
invariant-loop-node l = l.sends ≡ map (fetch_to l.self l.position) (take l.node-index l.nodes)
