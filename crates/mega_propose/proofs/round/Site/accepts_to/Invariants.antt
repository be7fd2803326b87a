use Rattle.std.proofs.Common.{◌≡◌, ◌++◌, map, take}
use Rattle.mega_propose.specs.Rounds.{accept_to}
use Rattle.mega_propose.proofs.round.Site.accepts_to.Given as goal

abbrev pub invariant-loop-node : goal.invariant-loop-node
invariant-loop-node l = l.sends ≡ map (accept_to l.self l.ballot l.entry) (take l.node-index l.nodes)
