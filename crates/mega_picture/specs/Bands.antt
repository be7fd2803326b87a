-- The bands along lanes: where nodes are up, where their coordinators serve, and where groups are valid or invalid.
use Rattle.std.specs.Prelude.{ℕ, ◌+◌, ◌-◌, ◌/◌, ◌==◌, Bool, true, false, List, [], ◌∷◌, ◌++◌, codes, decimal, Option, Some, None}
use Rattle.mega_transcript.specs.declared.item.Item.{Item}
use Rattle.mega_transcript.specs.declared.item.Item.TheVariants as items
use Rattle.mega_picture.specs.declared.item_line.ItemLine.{ItemLine}
use Rattle.mega_picture.specs.declared.sheet.Sheet.{Sheet}
use Rattle.mega_picture.specs.declared.bands.Band.{Band}
use Rattle.mega_picture.specs.declared.bands.Band.TheVariants.{Up, Serves}
use Rattle.mega_picture.specs.declared.bands.Turn.{Turn}
use Rattle.mega_picture.specs.declared.bands.Turn.TheVariants.{Begins, Ends, Stays}
use Rattle.mega_picture.specs.Sheets.{lane, step}

abbrev pub turn_if : Bool → Turn → Turn
turn_if true turn = turn
turn_if false turn = Stays

-- a node is up from a start to a crash; its coordinator serves from `serving` to `lost` or a crash
abbrev pub turn_of : Band → ℕ → Item → Turn
turn_of Up node (items.Start at start) = turn_if (at.0 == node) Begins
turn_of Up node (items.Crash at) = turn_if (at.0 == node) Ends
turn_of Serves node (items.Serving at epoch) = turn_if (at.0 == node) Begins
turn_of Serves node (items.Lost at epoch) = turn_if (at.0 == node) Ends
turn_of Serves node (items.Crash at) = turn_if (at.0 == node) Ends
turn_of band node _ = Stays

abbrev pub width_of : Band → ℕ
width_of Up = 2
width_of Serves = 14

abbrev pub class_of : Band → List ℕ
class_of Up = codes "up"
class_of Serves = codes "serves"

abbrev pub rect_text : List ℕ → ℕ → ℕ → ℕ → ℕ → List ℕ
rect_text class x y width height =
    codes "<rect class=\"" ++ (class ++ (codes "\" x=\"" ++ (decimal x ++ (codes "\" y=\"" ++ (decimal y ++ (codes "\" width=\"" ++ (decimal width ++ (codes "\" height=\"" ++ (decimal height
    ++ codes "\"/>\n")))))))))

-- a band of a node between two steps
unfoldable pub band_text : Sheet → Band → ℕ → ℕ → ℕ → List ℕ
band_text sheet band node from to =
    rect_text (class_of band) (lane sheet node - width_of band / 2) (step from) (width_of band) (step to - step from)

-- the band that is there, up to a step
abbrev pub ended : Sheet → Band → ℕ → Option ℕ → ℕ → List ℕ
ended sheet band node None to = []
ended sheet band node (Some from) to = band_text sheet band node from to

abbrev pub turned : Sheet → Band → ℕ → Option ℕ → ℕ → Turn → List ℕ
turned sheet band node since row Stays = []
turned sheet band node since row Begins = ended sheet band node since row
turned sheet band node since row Ends = ended sheet band node since row

abbrev pub since_after : Option ℕ → ℕ → Turn → Option ℕ
since_after since row Stays = since
since_after since row Begins = Some row
since_after since row Ends = None

-- the bands of a node from a row on; the last one goes on to the foot of the page
abbrev pub bands_from : Sheet → Band → ℕ → Option ℕ → ℕ → List ItemLine → List ℕ
bands_from sheet band node since row [] = ended sheet band node since sheet.steps
bands_from sheet band node since row (one ∷ rest) =
    turned sheet band node since row (turn_of band node one.item) ++ bands_from sheet band node (since_after since row (turn_of band node one.item)) (row + 1) rest

abbrev pub band_texts : Sheet → Band → ℕ → List ItemLine → List ℕ
band_texts sheet band node told = bands_from sheet band node None 0 told
