-- What stands beside marks.
use Rattle.std.specs.Prelude.{ℕ, ◌==◌, if◌then◌else◌, nat_eq, List, [], ◌∷◌, ◌++◌, codes, decimal, drop, length}
use Rattle.std.specs.List.{starts_with}
use Rattle.mega_base.specs.declared.names.OpId.{OpId}
use Rattle.mega_base.specs.declared.names.Epoch.{Epoch}
use Rattle.mega_wire.specs.declared.message.Message.{Message}
use Rattle.mega_transcript.specs.declared.item.Item.{Item}
use Rattle.mega_transcript.specs.declared.item.Item.TheVariants as items
use Rattle.mega_picture.specs.Kinds.{kind_of, kind_name}
use Rattle.mega_picture.specs.Groups.{number_in}

-- the bytes before the first quote
abbrev pub until_quote : List ℕ → List ℕ
until_quote [] = []
until_quote (byte ∷ bytes) = if byte == 34 then [] else byte ∷ until_quote bytes

-- the bytes behind a mark where it first stands, up to the next quote
abbrev pub value_behind : List ℕ → List ℕ → List ℕ
value_behind mark [] = []
value_behind mark (byte ∷ bytes) =
    if starts_with nat_eq (byte ∷ bytes) mark then until_quote (drop (length mark) (byte ∷ bytes)) else value_behind mark bytes

abbrev pub op_label : OpId → List ℕ
op_label op = decimal op.node.0 ++ (codes "." ++ (decimal op.start ++ (codes "." ++ (decimal op.number ++ codes " "))))

-- an operation, what it does, and the mode of a read, as the text of its request has them
abbrev pub begin_label : OpId → List ℕ → List ℕ
begin_label op text = op_label op ++ (value_behind (codes "\"do\":\"") text ++ (codes " " ++ value_behind (codes "\"mode\":\"") text))

-- the words of an answer, with its operation: its line behind the first word
abbrev pub answer_label : List ℕ → List ℕ
answer_label line = drop 7 line

abbrev pub number_label : List ℕ → ℕ → List ℕ
number_label name number = name ++ (codes " " ++ decimal number)

abbrev pub epoch_label : List ℕ → Epoch → List ℕ
epoch_label name epoch = name ++ (codes " " ++ (decimal epoch.start ++ (codes "." ++ decimal epoch.count)))

abbrev pub cell_label : List ℕ → Epoch → List ℕ → ℕ → List ℕ
cell_label name epoch to node = epoch_label name epoch ++ (codes " " ++ (to ++ (codes " " ++ decimal node)))

abbrev pub place_label : List ℕ → ℕ → ℕ → List ℕ
place_label name group position = name ++ (codes " g" ++ (decimal group ++ (codes " " ++ decimal position)))

abbrev pub unsent_label : Message → List ℕ
unsent_label message = codes "unsent " ++ (kind_name (kind_of message.body) ++ (codes " to " ++ decimal message.to))

unfoldable pub cut_label : List ℕ
cut_label = codes "cut: the drain ends, and a message waits"

unfoldable pub unsafe_label : List ℕ
unsafe_label = codes "unsafe: leases are not safe from the line before on"

-- the label of an item's mark; its line has the words of an answer
abbrev pub label_of : List (List ℕ) → List ℕ → Item → List ℕ
label_of keys line (items.Start node start) = number_label (codes "start") start
label_of keys line (items.Unsent node message) = unsent_label message
label_of keys line (items.Tick node now) = number_label (codes "tick") now
label_of keys line (items.Begin op text) = begin_label op text
label_of keys line (items.Taken number) = decimal number
label_of keys line (items.Dropped number) = number_label (codes "dropped") number
label_of keys line (items.Sent number message) = []
label_of keys line (items.Grant cell node epoch) = cell_label (codes "grant") epoch (codes "to") node.0
label_of keys line (items.Lapse cell node epoch) = cell_label (codes "lapse") epoch (codes "of") node.0
label_of keys line (items.Counts node cell epoch) = number_label (codes "counts") cell
label_of keys line (items.Forgets node cell epoch) = number_label (codes "forgets") cell
label_of keys line (items.Serving node epoch) = epoch_label (codes "serving") epoch
label_of keys line (items.Lost node epoch) = epoch_label (codes "lost") epoch
label_of keys line (items.Valid node group position) = place_label (codes "valid") (number_in keys group.key) position.0
label_of keys line (items.Invalid node group position) = place_label (codes "invalid") (number_in keys group.key) position.0
label_of keys line (items.Decide node group position entry) = place_label (codes "decide") (number_in keys group.key) position.0
label_of keys line (items.Apply node group position) = place_label (codes "apply") (number_in keys group.key) position.0
label_of keys line (items.Answer op answer) = answer_label line
label_of keys line (items.Crash node) = codes "crash"
label_of keys line items.Cut = cut_label
label_of keys line items.Unsafe = unsafe_label
