-- How marks are spelled in a page.
use Rattle.std.specs.Prelude.{ℕ, ◌+◌, ◌-◌, List, [], ◌∷◌, ◌++◌, codes, decimal, Option, Some, None}
use Rattle.mega_picture.specs.declared.item_line.ItemLine.{ItemLine}
use Rattle.mega_picture.specs.declared.sheet.Sheet.{Sheet}
use Rattle.mega_picture.specs.declared.marks.Place.{Place}
use Rattle.mega_picture.specs.declared.marks.Place.TheVariants.{Right, Left, Across}
use Rattle.mega_picture.specs.declared.marks.Mark.{Mark}
use Rattle.mega_picture.specs.Escape.{shortened, fitted}
use Rattle.mega_picture.specs.Kinds.{tone_of}
use Rattle.mega_picture.specs.Sheets.{lane, step, width, label_room, title_room}
use Rattle.mega_picture.specs.Labels.{label_of}
use Rattle.mega_picture.specs.Marks.{word_of, mark_of}

-- where a mark stands
abbrev pub x_of : Sheet → Place → ℕ
x_of sheet (Right node) = lane sheet node
x_of sheet (Left node) = lane sheet node
x_of sheet Across = 52

-- where its label begins, or ends where it stands to the left
abbrev pub beside_of : Sheet → Place → ℕ
beside_of sheet (Right node) = lane sheet node + 11
beside_of sheet (Left node) = lane sheet node - 11
beside_of sheet Across = 63

abbrev pub class_of : Place → List ℕ
class_of (Right node) = codes "b"
class_of (Left node) = codes "e"
class_of Across = codes "b"

-- how many bytes of a label there is room for
abbrev pub room_of : Sheet → Place → ℕ
room_of sheet (Right node) = label_room sheet
room_of sheet (Left node) = label_room sheet
room_of sheet Across = width sheet

unfoldable pub mark_opening : ℕ → List ℕ
mark_opening tone = codes "<g class=\"mark p" ++ (decimal tone ++ codes "\"><title>")

abbrev pub use_text : List ℕ → ℕ → ℕ → List ℕ
use_text shape x y = codes "</title><use href=\"#" ++ (shape ++ (codes "\" x=\"" ++ (decimal x ++ (codes "\" y=\"" ++ (decimal y ++ codes "\"/>")))))

abbrev pub text_opening : List ℕ → ℕ → ℕ → List ℕ
text_opening class x y = codes "<text class=\"" ++ (class ++ (codes "\" x=\"" ++ (decimal x ++ (codes "\" y=\"" ++ (decimal y ++ codes "\">")))))

-- the label of a mark in a row
unfoldable pub caption_text : Sheet → ℕ → Place → List ℕ → List ℕ
caption_text sheet row place label =
    text_opening (class_of place) (beside_of sheet place) (step row + 4) ++ (shortened (room_of sheet place) label ++ codes "</text></g>\n")

-- the shape of a mark, and its label
unfoldable pub figure_text : Sheet → ℕ → Mark → List ℕ → List ℕ
figure_text sheet row mark label =
    use_text (word_of mark.shape) (x_of sheet mark.place) (step row) ++ caption_text sheet row mark.place label

-- a mark in a row, with the line of the transcript as its title, and a label beside it
unfoldable pub mark_text : Sheet → ℕ → Mark → List ℕ → List ℕ → List ℕ
mark_text sheet row mark line label =
    mark_opening (tone_of mark.position) ++ (fitted (title_room sheet) line ++ figure_text sheet row mark label)

-- the mark of a line, where it has one
abbrev pub text_if : Sheet → List (List ℕ) → ℕ → ItemLine → Option Mark → List ℕ
text_if sheet keys row one None = []
text_if sheet keys row one (Some mark) = mark_text sheet row mark one.line (label_of keys one.line one.item)

-- the marks of the lines from a row on
abbrev pub mark_texts_from : Sheet → List (List ℕ) → List ItemLine → ℕ → List ItemLine → List ℕ
mark_texts_from sheet keys told row [] = []
mark_texts_from sheet keys told row (one ∷ rest) = text_if sheet keys row one (mark_of told one.item) ++ mark_texts_from sheet keys told (row + 1) rest

abbrev pub mark_texts : Sheet → List (List ℕ) → List ItemLine → List ℕ
mark_texts sheet keys told = mark_texts_from sheet keys told 0 told
