use Rattle.std.proofs.Common.{◌≡◌, map, take}
use Rattle.mega_rules.specs.Steps.{decide_to}
use Rattle.mega_step_parts.proofs.spreading.decide_to_all.Given as goal

abbrev pub invariant-loop-node : goal.invariant-loop-node
invariant-loop-node l = l.sends ≡ map (decide_to l.me l.found) (take l.node-index l.nodes)
