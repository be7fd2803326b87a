use Rattle.std.proofs.Common.{◌≡◌, ◌++◌}
use Rattle.mega_gen.specs.Generated.{more_nodes}
use Rattle.mega_gen.proofs.header.add_nodes.Given as goal

abbrev pub invariant-loop-left : goal.invariant-loop-left
invariant-loop-left l = l.text ++ more_nodes l.left ≡ l.initial.text ++ more_nodes l.more

abbrev pub decreases-loop-left : goal.decreases-loop-left
decreases-loop-left l = l.left
