use Rattle.std.proofs.Common.{◌≡◌, length}
use Rattle.mega_disk.specs.Changes.{all_undone}
use Rattle.mega_disk.proofs.changes.undo_all.Given as goal

abbrev pub invariant-loop-change : goal.invariant-loop-change
invariant-loop-change l = all_undone l.changes.items l.content.items ≡ all_undone l.fn.changes.items l.fn.content.items

abbrev pub decreases-loop-change : goal.decreases-loop-change
decreases-loop-change l = length l.changes.items
