use Rattle.std.proofs.Common.{◌≡◌, ◌+◌, ◌-◌, ◌≤◌}
use Rattle.mega_gen.specs.Pages.{fill}
use Rattle.mega_gen.specs.Blocks.{ticks}
use Rattle.mega_gen.proofs.block.add_ticks.Given as goal

abbrev pub invariant-loop-node : goal.invariant-loop-node
invariant-loop-node l = (l.node ≤ l.nodes + 1) × (fill l.page (ticks l.now l.node (l.nodes + 1 - l.node)) ≡ fill l.initial.page (ticks l.now 1 l.nodes))

abbrev pub decreases-loop-node : goal.decreases-loop-node
decreases-loop-node l = l.nodes + 1 - l.node
