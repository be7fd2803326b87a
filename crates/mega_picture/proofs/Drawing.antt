-- What is written of each line in turn.
use Rattle.std.proofs.Common.{◌≡◌, ℕ, ◌+◌, ◌<◌, List, ◌∷◌, ◌++◌, length, drop, get_or, sym, ap, ◌∙◌, append_assoc}
use Rattle.std.proofs.lemmas.List.{drop_more}
use Rattle.mega_picture.specs.declared.item_line.ItemLine.{ItemLine}
use Rattle.mega_picture.specs.declared.sheet.Sheet.{Sheet}
use Rattle.mega_picture.specs.Arrows.{arrow_of}
use Rattle.mega_picture.specs.ArrowTexts.{text_if, arrow_texts_from}
use Rattle.mega_picture.specs.ArrowNames.{name_if, arrow_names_from}
use Rattle.mega_picture.specs.Marks.{mark_of}
use Rattle.mega_picture.specs.MarkTexts.{text_if as mark_if, mark_texts_from}

-- one line more was drawn, and the rest is still to come
pub arrows_on : (out : List ℕ) (sheet : Sheet) (told : List ItemLine) (i : ℕ) (one : ItemLine) → i < length told → one ≡ get_or told i one → (out ++ text_if sheet one.line (arrow_of told i one.item)) ++ arrow_texts_from sheet told (i + 1) (drop (i + 1) told) ≡ out ++ arrow_texts_from sheet told i (drop i told)
arrows_on out sheet told i one lt is =
    append_assoc out (text_if sheet one.line (arrow_of told i one.item)) (arrow_texts_from sheet told (i + 1) (drop (i + 1) told))
    ∙ ap (λ rest. out ++ arrow_texts_from sheet told i rest) (ap (λ x. x ∷ drop (i + 1) told) is ∙ sym (drop_more told i one lt))

pub marks_on : (out : List ℕ) (sheet : Sheet) (keys : List (List ℕ)) (told : List ItemLine) (i : ℕ) (one : ItemLine) → i < length told → one ≡ get_or told i one → (out ++ mark_if sheet keys i one (mark_of told one.item)) ++ mark_texts_from sheet keys told (i + 1) (drop (i + 1) told) ≡ out ++ mark_texts_from sheet keys told i (drop i told)
marks_on out sheet keys told i one lt is =
    append_assoc out (mark_if sheet keys i one (mark_of told one.item)) (mark_texts_from sheet keys told (i + 1) (drop (i + 1) told))
    ∙ ap (λ rest. out ++ mark_texts_from sheet keys told i rest) (ap (λ x. x ∷ drop (i + 1) told) is ∙ sym (drop_more told i one lt))

pub names_on : (out : List ℕ) (sheet : Sheet) (told : List ItemLine) (i : ℕ) (one : ItemLine) → i < length told → one ≡ get_or told i one → (out ++ name_if sheet i one.item) ++ arrow_names_from sheet (i + 1) (drop (i + 1) told) ≡ out ++ arrow_names_from sheet i (drop i told)
names_on out sheet told i one lt is =
    append_assoc out (name_if sheet i one.item) (arrow_names_from sheet (i + 1) (drop (i + 1) told))
    ∙ ap (λ rest. out ++ arrow_names_from sheet i rest) (ap (λ x. x ∷ drop (i + 1) told) is ∙ sym (drop_more told i one lt))
