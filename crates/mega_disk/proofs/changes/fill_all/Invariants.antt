use Rattle.std.proofs.Common.{◌≡◌, drop}
use Rattle.mega_disk.specs.Changes.{all_filled}
use Rattle.mega_disk.proofs.changes.fill_all.Given as goal

abbrev pub invariant-loop-change : goal.invariant-loop-change
invariant-loop-change l = all_filled (drop l.change-index l.changes) l.content.items ≡ all_filled l.changes l.fn.content.items
