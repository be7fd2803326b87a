-- Which items cannot be drawn.
use Rattle.std.specs.Prelude.{ℕ, ◌+◌, nat_lt, max, Bool, false, if◌then◌else◌, List, [], ◌∷◌, Option, Some, None}
use Rattle.mega_transcript.specs.declared.item.Item.{Item}
use Rattle.mega_transcript.specs.declared.item.Item.TheVariants as items
use Rattle.mega_picture.specs.declared.item_line.ItemLine.{ItemLine}
use Rattle.mega_picture.specs.declared.journeys.Way.TheVariants as ways
use Rattle.mega_picture.specs.declared.drawable.Flaw.{Flaw}
use Rattle.mega_picture.specs.declared.drawable.Flaw.TheVariants.{NotSent, SentBefore, NoNode}
use Rattle.mega_picture.specs.Ways.{first_row}

-- the greatest number of a node that an item names, 0 for none
abbrev pub greatest_node : Item → ℕ
greatest_node (items.Start node start) = node.0
greatest_node (items.Unsent node message) = node.0
greatest_node (items.Tick node now) = node.0
greatest_node (items.Begin op text) = op.node.0
greatest_node (items.Taken number) = 0
greatest_node (items.Dropped number) = 0
greatest_node (items.Sent number message) = max message.from message.to
greatest_node (items.Grant cell node epoch) = max cell node.0
greatest_node (items.Lapse cell node epoch) = max cell node.0
greatest_node (items.Counts node cell epoch) = node.0
greatest_node (items.Forgets node cell epoch) = node.0
greatest_node (items.Serving node epoch) = node.0
greatest_node (items.Lost node epoch) = node.0
greatest_node (items.Valid node group position) = node.0
greatest_node (items.Invalid node group position) = node.0
greatest_node (items.Decide node group position entry) = node.0
greatest_node (items.Apply node group position) = node.0
greatest_node (items.Answer op answer) = op.node.0
greatest_node (items.Crash node) = node.0
greatest_node items.Cut = 0
greatest_node items.Unsafe = 0

abbrev pub is_before : Option ℕ → ℕ → Bool
is_before None row = false
is_before (Some first) row = nat_lt first row

-- whether a message was sent before a row of the lines drawn
abbrev pub is_sent_before : List ItemLine → ℕ → ℕ → Bool
is_sent_before told number row = is_before (first_row ways.Sent number told) row

-- a message that is taken or dropped was sent before, and one that is sent was not
abbrev pub message_flaw : List ItemLine → ℕ → Item → Option Flaw
message_flaw told row (items.Taken number) = if is_sent_before told number row then None else Some (NotSent row number)
message_flaw told row (items.Dropped number) = if is_sent_before told number row then None else Some (NotSent row number)
message_flaw told row (items.Sent number message) = if is_sent_before told number row then Some (SentBefore row number) else None
message_flaw told row _ = None

-- and each node has a lane
abbrev pub flaw_at : List ItemLine → ℕ → ℕ → Item → Option Flaw
flaw_at told nodes row item = if nat_lt nodes (greatest_node item) then Some (NoNode row (greatest_node item)) else message_flaw told row item

abbrev pub or_later : Option Flaw → Option Flaw → Option Flaw
or_later None later = later
or_later (Some flaw) later = Some flaw

abbrev pub flaw_from : List ItemLine → ℕ → ℕ → List ItemLine → Option Flaw
flaw_from told nodes row [] = None
flaw_from told nodes row (one ∷ rest) = or_later (flaw_at told nodes row one.item) (flaw_from told nodes (row + 1) rest)

-- the first one, with so many nodes
abbrev pub flaw_of : ℕ → List ItemLine → Option Flaw
flaw_of nodes told = flaw_from told nodes 0 told
