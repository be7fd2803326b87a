use Rattle.std.proofs.Common.{◌≡◌, ◌++◌, map, take}
use Rattle.mega_propose.specs.Rounds.{prepare_to}
use Rattle.mega_propose.proofs.round.Site.prepares_to.Given as goal

abbrev pub invariant-loop-node : goal.invariant-loop-node
invariant-loop-node l = l.sends ≡ map (prepare_to l.self l.ballot) (take l.node-index l.nodes)
