use Rattle.std.proofs.Common.{◌≡◌, ◌-◌, None}
use Rattle.mega_gen.specs.Pages.{fill}
use Rattle.mega_gen.specs.Blocks.{operations, state_after}
use Rattle.mega_gen.proofs.block.add_operations.Given as goal

abbrev pub invariant-loop-left : goal.invariant-loop-left
invariant-loop-left l =
    (fill l.page (operations l.nodes l.left l.down l.reached) ≡ fill l.initial.page (operations l.nodes (19 - l.nodes) None l.state))
    × (state_after l.nodes l.left l.down l.reached ≡ state_after l.nodes (19 - l.nodes) None l.state)

abbrev pub decreases-loop-left : goal.decreases-loop-left
decreases-loop-left l = l.left
