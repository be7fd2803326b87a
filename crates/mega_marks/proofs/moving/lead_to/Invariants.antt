use Rattle.std.proofs.Common.{◌≡◌, drop}
use Rattle.mega_marks.specs.Marked.{lead_to}
use Rattle.mega_marks.proofs.moving.lead_to.Given as goal

abbrev pub invariant-loop-last : goal.invariant-loop-last
invariant-loop-last l = lead_to l.left (drop l.last-index l.ends) ≡ lead_to l.marks l.ends
