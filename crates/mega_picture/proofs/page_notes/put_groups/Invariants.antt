use Rattle.std.proofs.Common.{◌≡◌, ◌++◌, drop}
use Rattle.mega_picture.specs.Pages.{groups_from}
use Rattle.mega_picture.proofs.page_notes.put_groups.Given as goal

abbrev pub invariant-loop-index : goal.invariant-loop-index
invariant-loop-index l = l.out ++ groups_from l.sheet l.index (drop l.index l.keys) ≡ l.initial.out ++ groups_from l.sheet 0 l.keys
