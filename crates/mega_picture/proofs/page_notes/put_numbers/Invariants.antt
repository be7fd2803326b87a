use Rattle.std.proofs.Common.{◌≡◌, ◌++◌}
use Rattle.mega_picture.specs.Texts.{all_to}
use Rattle.mega_picture.specs.Pages.{number_at}
use Rattle.mega_picture.proofs.page_notes.put_numbers.Given as goal

abbrev pub invariant-loop-row : goal.invariant-loop-row
invariant-loop-row l = l.out ≡ l.initial.out ++ all_to (number_at l.first) l.row
