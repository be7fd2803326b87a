use Rattle.std.proofs.Common.{◌≡◌, ◌++◌, drop}
use Rattle.mega_picture.specs.ArrowTexts.{arrow_texts, arrow_texts_from}
use Rattle.mega_picture.proofs.arrow_texts.put_arrows.Given as goal

abbrev pub invariant-loop-index : goal.invariant-loop-index
invariant-loop-index l = l.out ++ arrow_texts_from l.sheet l.told l.index (drop l.index l.told) ≡ l.initial.out ++ arrow_texts l.sheet l.told
