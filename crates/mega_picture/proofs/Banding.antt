-- The bands of a node, one line more at a time.
use Rattle.std.proofs.Common.{◌≡◌, ℕ, ◌+◌, ◌<◌, List, ◌∷◌, ◌++◌, length, drop, get_or, sym, ap, ◌∙◌, append_assoc}
use Rattle.std.specs.Prelude.{Option}
use Rattle.std.proofs.lemmas.List.{drop_more}
use Rattle.mega_picture.specs.declared.item_line.ItemLine.{ItemLine}
use Rattle.mega_picture.specs.declared.sheet.Sheet.{Sheet}
use Rattle.mega_picture.specs.declared.bands.Band.{Band}
use Rattle.mega_picture.specs.Bands.{turn_of, turned, since_after, bands_from}

pub bands_on : (out : List ℕ) (sheet : Sheet) (band : Band) (node : ℕ) (since : Option ℕ) (told : List ItemLine) (i : ℕ) (one : ItemLine) → i < length told → one ≡ get_or told i one → (out ++ turned sheet band node since i (turn_of band node one.item)) ++ bands_from sheet band node (since_after since i (turn_of band node one.item)) (i + 1) (drop (i + 1) told) ≡ out ++ bands_from sheet band node since i (drop i told)
bands_on out sheet band node since told i one lt is =
    append_assoc out (turned sheet band node since i (turn_of band node one.item)) (bands_from sheet band node (since_after since i (turn_of band node one.item)) (i + 1) (drop (i + 1) told))
    ∙ ap (λ rest. out ++ bands_from sheet band node since i rest) (ap (λ x. x ∷ drop (i + 1) told) is ∙ sym (drop_more told i one lt))
