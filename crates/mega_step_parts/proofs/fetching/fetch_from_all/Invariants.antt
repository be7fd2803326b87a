use Rattle.std.proofs.Common.{◌≡◌, map, take}
use Rattle.mega_step_parts.specs.Fetching.{fetch_message}
use Rattle.mega_step_parts.proofs.fetching.fetch_from_all.Given as goal

abbrev pub invariant-loop-node : goal.invariant-loop-node
invariant-loop-node l = l.sends ≡ map (fetch_message l.op l.me l.group l.position) (take l.node-index l.nodes)
