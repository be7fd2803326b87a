-- The page of the lines drawn: a head, the bands of each lane, the arrows, the marks, and what is written around them.
use Rattle.std.specs.Prelude.{ℕ, ◌+◌, ◌-◌, ◌*◌, ◌%◌, ◌==◌, ◌||◌, min, max, Bool, false, if◌then◌else◌, List, [], ◌∷◌, ◌++◌, length, codes, decimal, Option, Some, None, slice_get}
use Rattle.std.specs.List.{list_any}
use Rattle.hex.specs.Hex.{encode_lower}
use Rattle.mega_base.specs.declared.values.NodeKind.{NodeKind}
use Rattle.mega_transcript.specs.declared.item.Item.{Item}
use Rattle.mega_transcript.specs.declared.item.Item.TheVariants as items
use Rattle.mega_picture.specs.declared.item_line.ItemLine.{ItemLine}
use Rattle.mega_picture.specs.declared.sheet.Sheet.{Sheet}
use Rattle.mega_picture.specs.declared.bands.Band.TheVariants.{Up, Serves}
use Rattle.mega_picture.specs.declared.style.TheConstants.{STYLE, SHAPES}
use Rattle.mega_picture.specs.Kinds.{node_word}
use Rattle.mega_picture.specs.Sheets.{lane, step, width, foot, height}
use Rattle.mega_picture.specs.Named.{keys_of}
use Rattle.mega_picture.specs.Texts.{all_to}
use Rattle.mega_picture.specs.Bands.{band_texts}
use Rattle.mega_picture.specs.Validity.{validity_texts}
use Rattle.mega_picture.specs.ArrowTexts.{arrow_texts}
use Rattle.mega_picture.specs.ArrowNames.{arrow_names}
use Rattle.mega_picture.specs.MarkTexts.{mark_texts}

unfoldable pub opening : ℕ → ℕ → List ℕ
opening width height =
    codes "<svg xmlns=\"http://www.w3.org/2000/svg\" width=\"" ++ (decimal width ++ (codes "\" height=\"" ++ (decimal height ++ (codes "\" viewBox=\"0 0 " ++ (decimal width ++ (codes " " ++ (decimal height ++ codes "\">\n")))))))

unfoldable pub paper : ℕ → ℕ → List ℕ
paper width height = codes "<rect class=\"page\" width=\"" ++ (decimal width ++ (codes "\" height=\"" ++ (decimal height ++ codes "\"/>\n")))

-- the opening, the style sheet, the shapes, and the paper
unfoldable pub head_with : List ℕ → List ℕ → ℕ → ℕ → List ℕ
head_with style shapes width height = opening width height ++ (style ++ (shapes ++ paper width height))

abbrev pub head : ℕ → ℕ → List ℕ
head width height = head_with STYLE.now SHAPES.now width height

-- the bands of a node, counted from 0
unfoldable pub lane_bands : Sheet → List (List ℕ) → List ItemLine → ℕ → List ℕ
lane_bands sheet keys told index =
    band_texts sheet Serves (index + 1) told ++ (band_texts sheet Up (index + 1) told ++ validity_texts sheet keys (index + 1) told)

abbrev pub all_bands : Sheet → List (List ℕ) → List ItemLine → List ℕ
all_bands sheet keys told = all_to (lane_bands sheet keys told) sheet.nodes

-- the number of the line in a row, where the first one has this number
abbrev pub line_number : ℕ → ℕ → ℕ
line_number first row = min (first + row) 18446744073709551615

abbrev pub number_text : ℕ → ℕ → List ℕ
number_text y number = codes "<text class=\"n\" x=\"46\" y=\"" ++ (decimal y ++ (codes "\">" ++ (decimal number ++ codes "</text>\n")))

-- every fifth line has its number
unfoldable pub number_at : ℕ → ℕ → List ℕ
number_at first row = if line_number first row % 5 == 0 then number_text (step row + 3) (line_number first row) else []

abbrev pub line_numbers : Sheet → ℕ → List ℕ
line_numbers sheet first = all_to (number_at first) sheet.steps

abbrev pub name_text : ℕ → ℕ → ℕ → List ℕ → List ℕ
name_text x y node word =
    codes "<text class=\"name\" x=\"" ++ (decimal x ++ (codes "\" y=\"" ++ (decimal y ++ (codes "\">" ++ (decimal node ++ (codes " " ++ (word ++ codes "</text>\n")))))))

abbrev pub kind_text : Sheet → ℕ → ℕ → Option NodeKind → List ℕ
kind_text sheet y index None = []
kind_text sheet y index (Some kind) = name_text (lane sheet (index + 1)) y (index + 1) (node_word kind)

-- the name of a node's lane, counted from 0
unfoldable pub name_at : Sheet → List NodeKind → ℕ → ℕ → List ℕ
name_at sheet nodes y index = kind_text sheet y index (slice_get nodes index)

abbrev pub lane_names : Sheet → List NodeKind → ℕ → List ℕ
lane_names sheet nodes y = all_to (name_at sheet nodes y) sheet.nodes

-- the lanes are named above the first step and above every fortieth
unfoldable pub names_at : Sheet → List NodeKind → ℕ → List ℕ
names_at sheet nodes row = if row % 40 == 0 then lane_names sheet nodes (step row - 17) else []

abbrev pub all_names : Sheet → List NodeKind → List ℕ
all_names sheet nodes = all_to (names_at sheet nodes) (max sheet.steps 1)

abbrev pub is_of_client : Item → Bool
is_of_client (items.Sent number message) = (message.from == 0) || (message.to == 0)
is_of_client _ = false

abbrev pub has_clients : List ItemLine → Bool
has_clients told = list_any (λ one. is_of_client one.item) told

-- the lane of clients is named where some message is of one
unfoldable pub clients : List ItemLine → List ℕ
clients told = if has_clients told then codes "<text class=\"name\" x=\"66\" y=\"49\">clients</text>\n" else []

-- which group a number stands for, by its key in hex
unfoldable pub group_text : Sheet → ℕ → List ℕ → List ℕ
group_text sheet number key =
    codes "<text x=\"66\" y=\"" ++ (decimal (foot sheet + number * 22) ++ (codes "\">g" ++ (decimal number ++ (codes " " ++ (encode_lower key ++ codes "</text>\n")))))

abbrev pub groups_from : Sheet → ℕ → List (List ℕ) → List ℕ
groups_from sheet index [] = []
groups_from sheet index (key ∷ keys) = group_text sheet (index + 1) key ++ groups_from sheet (index + 1) keys

abbrev pub sheet_of : List NodeKind → List ItemLine → Sheet
sheet_of nodes told = record { nodes = min (length nodes) 255; steps = length told }

-- what is drawn of the lines
unfoldable pub drawing : Sheet → List (List ℕ) → List ItemLine → List ℕ
drawing sheet keys told = all_bands sheet keys told ++ (arrow_texts sheet told ++ (arrow_names sheet told ++ mark_texts sheet keys told))

-- what is written around it
unfoldable pub writing : Sheet → List (List ℕ) → List NodeKind → ℕ → List ItemLine → List ℕ
writing sheet keys nodes first told =
    line_numbers sheet first ++ (all_names sheet nodes ++ (clients told ++ groups_from sheet 0 keys))

unfoldable pub page_on : Sheet → List (List ℕ) → List NodeKind → ℕ → List ItemLine → List ℕ
page_on sheet keys nodes first told =
    head (width sheet) (height sheet (length keys)) ++ (drawing sheet keys told ++ (writing sheet keys nodes first told ++ codes "</svg>\n"))

-- the page of the lines drawn, of which the first has this number, under a header with these nodes
abbrev pub page : List NodeKind → ℕ → List ItemLine → List ℕ
page nodes first told = page_on (sheet_of nodes told) (keys_of told) nodes first told
