use Rattle.std.proofs.Common.{◌≡◌, ◌++◌, drop}
use Rattle.mega_picture.specs.MarkTexts.{mark_texts, mark_texts_from}
use Rattle.mega_picture.proofs.mark_texts.put_marks.Given as goal

abbrev pub invariant-loop-index : goal.invariant-loop-index
invariant-loop-index l = l.out ++ mark_texts_from l.sheet l.groups l.told l.index (drop l.index l.told) ≡ l.initial.out ++ mark_texts l.sheet l.groups l.told
