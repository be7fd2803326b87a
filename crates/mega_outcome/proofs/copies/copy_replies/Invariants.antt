use Rattle.std.proofs.Common.{◌≡◌, take}
use Rattle.mega_outcome.proofs.copies.copy_replies.Given as goal

abbrev pub invariant-loop-shown : goal.invariant-loop-shown
invariant-loop-shown l = l.made ≡ take l.shown-index l.shown-items
