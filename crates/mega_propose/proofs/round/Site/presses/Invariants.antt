use Rattle.std.proofs.Common.{◌≡◌, ◌++◌, map, take}
use Rattle.std.specs.Prelude.{flat_map}
use Rattle.mega_propose.specs.Rounds.{cell_numbers, dead_to}
use Rattle.mega_propose.proofs.round.Site.presses.Given as goal

abbrev pub invariant-loop-node : goal.invariant-loop-node
invariant-loop-node l = l.sends ≡ l.initial.sends ++ flat_map (λ node. map (dead_to l.self node) (cell_numbers l.self)) (take l.node-index l.nodes)
