use Rattle.std.proofs.Common.{◌≡◌, ◌++◌, map, take}
use Rattle.mega_propose.specs.Rounds.{invalidate_to}
use Rattle.mega_propose.proofs.round.Site.invalidates_to.Given as goal

abbrev pub invariant-loop-node : goal.invariant-loop-node
invariant-loop-node l = l.sends ≡ map (invalidate_to l.self) (take l.node-index l.nodes)
