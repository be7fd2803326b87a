use Rattle.std.proofs.Common.{◌≡◌, ◌++◌}
use Rattle.mega_picture.specs.Texts.{all_to}
use Rattle.mega_picture.specs.Pages.{names_at}
use Rattle.mega_picture.proofs.page_notes.put_all_names.Given as goal

abbrev pub invariant-loop-row : goal.invariant-loop-row
invariant-loop-row l = l.out ≡ l.initial.out ++ all_to (names_at l.sheet l.nodes) l.row
