-- The thin bands of groups that are valid or invalid at a node, the last one first.
use Rattle.std.specs.Prelude.{ℕ, ◌+◌, ◌-◌, ◌*◌, ◌%◌, ◌==◌, ◌||◌, Bool, true, false, if◌then◌else◌, List, [], ◌∷◌, ◌++◌, codes, decimal, Option, Some, None}
use Rattle.mega_transcript.specs.declared.item.Item.{Item}
use Rattle.mega_transcript.specs.declared.item.Item.TheVariants as items
use Rattle.mega_picture.specs.declared.item_line.ItemLine.{ItemLine}
use Rattle.mega_picture.specs.declared.sheet.Sheet.{Sheet}
use Rattle.mega_picture.specs.declared.bands.Turn.{Turn}
use Rattle.mega_picture.specs.declared.bands.Turn.TheVariants.{Ends}
use Rattle.mega_picture.specs.declared.bands.Band.TheVariants.{Serves}
use Rattle.mega_picture.specs.declared.validity.Change.{Change}
use Rattle.mega_picture.specs.Escape.{fitted}
use Rattle.mega_picture.specs.Sheets.{lane, step, title_room}
use Rattle.mega_picture.specs.Groups.{number_in}
use Rattle.mega_picture.specs.Bands.{turn_of}

abbrev pub change_if : Bool → ℕ → Bool → Option Change
change_if false group valid = None
change_if true group valid = Some (record { group = group; valid = valid })

-- which group an item makes valid, or invalid, at a node, by its number
abbrev pub change_of : List (List ℕ) → ℕ → Item → Option Change
change_of keys node (items.Valid at group position) = change_if (at.0 == node) (number_in keys group.key) true
change_of keys node (items.Invalid at group position) = change_if (at.0 == node) (number_in keys group.key) false
change_of keys node _ = None

abbrev pub is_end : Turn → Bool
is_end Ends = true
is_end _ = false

abbrev pub is_of : ℕ → Option Change → Bool
is_of group None = false
is_of group (Some change) = change.group == group

-- whether an item with this change, and this turn of the serving band, ends the band of a group: the group changes
-- again, or the node's epoch is lost, or it crashes
abbrev pub ends_band : ℕ → Option Change → Turn → Bool
ends_band group change turn = is_of group change || is_end turn

-- the row in which the band of a group ends, from a row on
abbrev pub end_from : List (List ℕ) → ℕ → ℕ → ℕ → List ItemLine → ℕ
end_from keys node group row [] = row
end_from keys node group row (one ∷ rest) =
    if ends_band group (change_of keys node one.item) (turn_of Serves node one.item) then row else end_from keys node group (row + 1) rest

abbrev pub class_of : Bool → List ℕ
class_of true = codes "valid"
class_of false = codes "invalid"

abbrev pub strip_opening : List ℕ → List ℕ
strip_opening class = codes "<g class=\"" ++ (class ++ codes "\"><title>")

abbrev pub strip_text : ℕ → ℕ → ℕ → List ℕ
strip_text x y height = codes "</title><rect x=\"" ++ (decimal x ++ (codes "\" y=\"" ++ (decimal y ++ (codes "\" width=\"3\" height=\"" ++ (decimal height ++ codes "\"/></g>\n")))))

-- the strip of a group at a node, between two steps; groups have eight columns in turn
unfoldable pub strip_at : Sheet → ℕ → ℕ → ℕ → ℕ → List ℕ
strip_at sheet node group from to = strip_text (lane sheet node - (14 + group % 8 * 5)) (step from) (step to - step from)

-- a thin band of a group at a node, between two steps, with a line as its title
unfoldable pub validity_text : Sheet → ℕ → Change → ℕ → ℕ → List ℕ → List ℕ
validity_text sheet node change from to line =
    strip_opening (class_of change.valid) ++ (fitted (title_room sheet) line ++ strip_at sheet node change.group from to)

-- the band that begins with a change in a row, where there is one, by where the bands of groups end
abbrev pub change_text : Sheet → ℕ → ℕ → Option Change → (ℕ → ℕ) → List ℕ → List ℕ
change_text sheet node row None end line = []
change_text sheet node row (Some change) end line = validity_text sheet node change row (end change.group) line

-- the bands of the groups of a node from a row on, the last one first
abbrev pub validities_from : Sheet → List (List ℕ) → ℕ → ℕ → List ItemLine → List ℕ
validities_from sheet keys node row [] = []
validities_from sheet keys node row (one ∷ rest) = validities_from sheet keys node (row + 1) rest ++ change_text sheet node row (change_of keys node one.item) (λ group. end_from keys node group (row + 1) rest) one.line

abbrev pub validity_texts : Sheet → List (List ℕ) → ℕ → List ItemLine → List ℕ
validity_texts sheet keys node told = validities_from sheet keys node 0 told
