use Rattle.std.proofs.Common.{◌≡◌, ◌++◌}
use Rattle.mega_picture.specs.Texts.{all_to}
use Rattle.mega_picture.specs.Pages.{name_at}
use Rattle.mega_picture.proofs.page_notes.put_names.Given as goal

abbrev pub invariant-loop-index : goal.invariant-loop-index
invariant-loop-index l = l.out ≡ l.initial.out ++ all_to (name_at l.sheet l.nodes l.y) l.index
