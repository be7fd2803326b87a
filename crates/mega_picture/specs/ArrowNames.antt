-- The names of messages, beside the beginnings of their arrows.
use Rattle.std.specs.Prelude.{ℕ, ◌+◌, ◌-◌, nat_lt, if◌then◌else◌, List, [], ◌∷◌, ◌++◌, codes, decimal}
use Rattle.mega_wire.specs.declared.message.Message.{Message}
use Rattle.mega_transcript.specs.declared.item.Item.{Item}
use Rattle.mega_transcript.specs.declared.item.Item.TheVariants as items
use Rattle.mega_picture.specs.declared.item_line.ItemLine.{ItemLine}
use Rattle.mega_picture.specs.declared.sheet.Sheet.{Sheet}
use Rattle.mega_picture.specs.Kinds.{kind_of, kind_name}
use Rattle.mega_picture.specs.Sheets.{lane, step}

-- a message's number and kind, at its arrow's beginning, on the side to which it goes
abbrev pub right_name : ℕ → ℕ → ℕ → List ℕ → List ℕ
right_name x y number name =
    codes "<text x=\"" ++ (decimal (x + 9) ++ (codes "\" y=\"" ++ (decimal y ++ (codes "\">" ++ (decimal number ++ (codes " " ++ (name ++ codes "</text>")))))))

abbrev pub left_name : ℕ → ℕ → ℕ → List ℕ → List ℕ
left_name x y number name =
    codes "<text class=\"e\" x=\"" ++ (decimal (x - 9) ++ (codes "\" y=\"" ++ (decimal y ++ (codes "\">" ++ (decimal number ++ (codes " " ++ (name ++ codes "</text>")))))))

unfoldable pub message_name : Sheet → ℕ → ℕ → Message → List ℕ
message_name sheet row number message =
    if nat_lt message.from message.to then right_name (lane sheet message.from) (step row - 5) number (kind_name (kind_of message.body))
    else left_name (lane sheet message.from) (step row - 5) number (kind_name (kind_of message.body))

-- the name of the message that an item sends
abbrev pub name_if : Sheet → ℕ → Item → List ℕ
name_if sheet row (items.Sent number message) = message_name sheet row number message
name_if sheet row _ = []

-- the names of the lines from a row on
abbrev pub arrow_names_from : Sheet → ℕ → List ItemLine → List ℕ
arrow_names_from sheet row [] = []
arrow_names_from sheet row (one ∷ rest) = name_if sheet row one.item ++ arrow_names_from sheet (row + 1) rest

abbrev pub arrow_names : Sheet → List ItemLine → List ℕ
arrow_names sheet told = arrow_names_from sheet 0 told
