-- How arrows are spelled in a page.
use Rattle.std.specs.Prelude.{ℕ, ◌+◌, ◌-◌, ◌*◌, ◌/◌, ◌%◌, ◌==◌, nat_lt, if◌then◌else◌, List, [], ◌∷◌, ◌++◌, codes, decimal, Option, Some, None}
use Rattle.mega_picture.specs.declared.item_line.ItemLine.{ItemLine}
use Rattle.mega_picture.specs.declared.sheet.Sheet.{Sheet}
use Rattle.mega_picture.specs.declared.arrows.End.{End}
use Rattle.mega_picture.specs.declared.arrows.End.TheVariants.{Taken, Dropped, Fades, Again}
use Rattle.mega_picture.specs.declared.arrows.Arrow.{Arrow}
use Rattle.mega_picture.specs.Escape.{fitted}
use Rattle.mega_picture.specs.Kinds.{tone_of}
use Rattle.mega_picture.specs.Sheets.{lane, step, title_room}
use Rattle.mega_picture.specs.Arrows.{arrow_of}

-- the class of an end, which says how the line looks
abbrev pub class_of : End → List ℕ
class_of (Taken row) = codes "taken"
class_of (Dropped row) = codes "lost"
class_of Fades = codes "fades"
class_of (Again row) = codes "again"

-- a straight line
abbrev pub line_path : ℕ → ℕ → ℕ → ℕ → List ℕ
line_path x y to_x to_y = codes "M" ++ (decimal x ++ (codes " " ++ (decimal y ++ (codes "L" ++ (decimal to_x ++ (codes " " ++ decimal to_y))))))

-- the last part of a line that comes back so far down, and so far aside
unfoldable pub back_path : ℕ → List ℕ → List ℕ
back_path down aside = decimal down ++ (codes " " ++ (aside ++ (codes " " ++ decimal down)))

-- a line that goes out to the left, bent so far, and comes back
abbrev pub bow_path : ℕ → ℕ → ℕ → List ℕ → ℕ → List ℕ
bow_path x y bend aside to_y =
    codes "M" ++ (decimal x ++ (codes " " ++ (decimal y ++ (codes "c-" ++ (decimal bend ++ (codes " 0 -" ++ (decimal bend ++ (codes " " ++ back_path (to_y - y) aside))))))))

-- how far out the line from a row is bent: otherwise than those from the six rows before
abbrev pub bend_of : ℕ → ℕ
bend_of row = 32 + row % 7 * 5

-- a place so far before another, seen from a third one
abbrev pub short_of : ℕ → ℕ → ℕ
short_of x to = if nat_lt x to then to - 22 else to + 22

-- the line of an arrow between two lanes, and on one lane
abbrev pub path_between : ℕ → ℕ → ℕ → End → List ℕ
path_between x to y (Taken row) = line_path x y to (step row)
path_between x to y (Dropped row) = line_path x y (short_of x to) (step row)
path_between x to y Fades = line_path x y ((x + to) / 2) (y + 20)
path_between x to y (Again row) = line_path x y to (step row)

abbrev pub path_back : ℕ → ℕ → ℕ → End → List ℕ
path_back x y bend (Taken row) = bow_path x y bend (codes "0") (step row)
path_back x y bend (Dropped row) = bow_path x y bend (codes "-22") (step row)
path_back x y bend Fades = bow_path x y bend (codes "-22") (y + 20)
path_back x y bend (Again row) = bow_path x y bend (codes "0") (step row)

unfoldable pub path_of : Sheet → Arrow → List ℕ
path_of sheet arrow =
    if arrow.from == arrow.to then path_back (lane sheet arrow.from) (step arrow.row) (bend_of arrow.row) arrow.end
    else path_between (lane sheet arrow.from) (lane sheet arrow.to) (step arrow.row) arrow.end

-- what opens the group of an arrow, and its line
unfoldable pub opening_of : Arrow → List ℕ
opening_of arrow = codes "<g class=\"" ++ (class_of arrow.end ++ (codes " p" ++ (decimal (tone_of arrow.position) ++ codes "\"><title>")))

unfoldable pub drawn : List ℕ → List ℕ
drawn path = codes "</title><path d=\"" ++ (path ++ codes "\"/>")

-- an arrow, with the line of the transcript as its title
unfoldable pub arrow_text : Sheet → Arrow → List ℕ → List ℕ
arrow_text sheet arrow line =
    opening_of arrow ++ (fitted (title_room sheet) line ++ (drawn (path_of sheet arrow) ++ codes "</g>\n"))

abbrev pub text_if : Sheet → List ℕ → Option Arrow → List ℕ
text_if sheet line None = []
text_if sheet line (Some arrow) = arrow_text sheet arrow line

-- the arrows of the lines from a row on
abbrev pub arrow_texts_from : Sheet → List ItemLine → ℕ → List ItemLine → List ℕ
arrow_texts_from sheet told row [] = []
arrow_texts_from sheet told row (one ∷ rest) = text_if sheet one.line (arrow_of told row one.item) ++ arrow_texts_from sheet told (row + 1) rest

abbrev pub arrow_texts : Sheet → List ItemLine → List ℕ
arrow_texts sheet told = arrow_texts_from sheet told 0 told
