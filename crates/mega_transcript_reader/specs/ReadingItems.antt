-- How the items of a tape are read.
use Rattle.std.specs.Prelude.{ℕ, ◌-◌, ◌==◌, if◌then◌else◌, List, [], ◌∷◌, ◌++◌, codes, length, Option, Some, None, Result, Ok, Err, nat_eq}
use Rattle.std.specs.List.{common_prefix_len}
use Rattle.mega_base.specs.Reading.{◌>>=◌}
use Rattle.mega_base.specs.declared.names.NodeId.{NodeId}
use Rattle.mega_base.specs.declared.names.Position.{Position}
use Rattle.mega_base.specs.declared.names.Epoch.{Epoch}
use Rattle.mega_base.specs.declared.names.GroupId.{GroupId}
use Rattle.mega_schema.specs.declared.schema.Schema.{Schema}
use Rattle.mega_syntax.specs.Names.{same}
use Rattle.mega_transcript.specs.declared.item.Item.{Item}
use Rattle.mega_transcript.specs.declared.item.Item.TheVariants as items
use Rattle.mega_transcript_reader.specs.declared.kinds.LineKind.{LineKind}
use Rattle.mega_transcript_reader.specs.declared.kinds.LineKind.TheVariants.{Start, Unsent, Tick, Begin, Taken, Dropped, Sent, Grant, Lapse, Counts, Forgets, Serving, Lost, Valid, Invalid, Decide, Apply, Answer, Crash}
use Rattle.mega_transcript_reader.specs.Kinds.{kind_of}
use Rattle.mega_transcript.specs.Reading.{Read, Field, until, two, made, u8_field, u32_field, u64_field, node_field, position_field, epoch_field, op_field, group_field, message_field, entry_field}
use Rattle.mega_transcript.specs.Lines.{line}
use Rattle.mega_transcript.specs.Requests.{request_field}
use Rattle.mega_transcript_reader.specs.ReadingAnswers.{answer_at}

-- a field behind a word of any bytes
abbrev pub taken_behind : {A : Type 0} → Field A → ℕ → ℕ → Option (List ℕ × List ℕ) → Read A
taken_behind field end refused None = Err refused
taken_behind field end refused (Some word) = field end word.1

abbrev pub behind : {A : Type 0} → Field A → Field A
behind field end left = taken_behind field end (length left) (until 32 left)

-- what stands behind the first word of a line

unfoldable pub start_at : List ℕ → Read Item
start_at = made (λ x. items.Start x.0 x.1) (two 32 node_field u32_field) 10

-- the name of the message's kind is passed over
unfoldable pub unsent_at : List ℕ → Read Item
unsent_at = made (λ x. items.Unsent x.0 x.1) (two 32 node_field (behind message_field)) 10

unfoldable pub tick_at : List ℕ → Read Item
tick_at = made (λ x. items.Tick x.0 x.1) (two 32 node_field u64_field) 10

unfoldable pub taken_at : List ℕ → Read Item
taken_at = made (λ n. items.Taken n) u64_field 10

unfoldable pub dropped_at : List ℕ → Read Item
dropped_at = made (λ n. items.Dropped n) u64_field 10

-- sender, receiver and the name of the kind are passed over
unfoldable pub sent_at : List ℕ → Read Item
sent_at = made (λ x. items.Sent x.0 x.1) (two 32 u64_field (behind (behind (behind message_field)))) 10

abbrev pub cell_node_epoch : Field (ℕ × (NodeId × Epoch))
cell_node_epoch = two 32 u8_field (two 32 node_field epoch_field)

unfoldable pub grant_at : List ℕ → Read Item
grant_at = made (λ x. items.Grant x.0 x.1.0 x.1.1) cell_node_epoch 10

unfoldable pub lapse_at : List ℕ → Read Item
lapse_at = made (λ x. items.Lapse x.0 x.1.0 x.1.1) cell_node_epoch 10

abbrev pub node_cell_epoch : Field (NodeId × (ℕ × Epoch))
node_cell_epoch = two 32 node_field (two 32 u8_field epoch_field)

unfoldable pub counts_at : List ℕ → Read Item
counts_at = made (λ x. items.Counts x.0 x.1.0 x.1.1) node_cell_epoch 10

unfoldable pub forgets_at : List ℕ → Read Item
forgets_at = made (λ x. items.Forgets x.0 x.1.0 x.1.1) node_cell_epoch 10

abbrev pub node_epoch : Field (NodeId × Epoch)
node_epoch = two 32 node_field epoch_field

unfoldable pub serving_at : List ℕ → Read Item
serving_at = made (λ x. items.Serving x.0 x.1) node_epoch 10

unfoldable pub lost_at : List ℕ → Read Item
lost_at = made (λ x. items.Lost x.0 x.1) node_epoch 10

abbrev pub node_group_position : Field (NodeId × (GroupId × Position))
node_group_position = two 32 node_field (two 32 group_field position_field)

unfoldable pub valid_at : List ℕ → Read Item
valid_at = made (λ x. items.Valid x.0 x.1.0 x.1.1) node_group_position 10

unfoldable pub invalid_at : List ℕ → Read Item
invalid_at = made (λ x. items.Invalid x.0 x.1.0 x.1.1) node_group_position 10

unfoldable pub decide_at : List ℕ → Read Item
decide_at = made (λ x. items.Decide x.0.0 x.0.1.0 x.0.1.1 x.1) (two 32 node_group_position entry_field) 10

unfoldable pub apply_at : List ℕ → Read Item
apply_at = made (λ x. items.Apply x.0 x.1.0 x.1.1) node_group_position 10

unfoldable pub crash_at : List ℕ → Read Item
crash_at = made (λ node. items.Crash node) node_field 10

unfoldable pub begin_at : List ℕ → Read Item
begin_at = made (λ x. items.Begin x.0 x.1) (two 32 op_field request_field) 10

unfoldable pub answered_at : Schema → List ℕ → Read Item
answered_at schema left =
    op_field 32 left >>= λ op.
    answer_at schema op.1 >>= λ answer.
    Ok (items.Answer op.0 answer.0, answer.1)

-- an item of this kind
abbrev pub of_kind : Schema → LineKind → List ℕ → Read Item
of_kind schema Start left = start_at left
of_kind schema Unsent left = unsent_at left
of_kind schema Tick left = tick_at left
of_kind schema Begin left = begin_at left
of_kind schema Taken left = taken_at left
of_kind schema Dropped left = dropped_at left
of_kind schema Sent left = sent_at left
of_kind schema Grant left = grant_at left
of_kind schema Lapse left = lapse_at left
of_kind schema Counts left = counts_at left
of_kind schema Forgets left = forgets_at left
of_kind schema Serving left = serving_at left
of_kind schema Lost left = lost_at left
of_kind schema Valid left = valid_at left
of_kind schema Invalid left = invalid_at left
of_kind schema Decide left = decide_at left
of_kind schema Apply left = apply_at left
of_kind schema Answer left = answered_at schema left
of_kind schema Crash left = crash_at left

abbrev pub by_kind : Schema → ℕ → List ℕ → Option LineKind → Read Item
by_kind schema refused left None = Err refused
by_kind schema refused left (Some kind) = of_kind schema kind left

abbrev pub by_word : Schema → ℕ → Option (List ℕ × List ℕ) → Read Item
by_word schema refused None = Err refused
by_word schema refused (Some word) = by_kind schema refused word.1 (kind_of word.0)

-- an item at the front
unfoldable pub item_at : Schema → List ℕ → Read Item
item_at schema left =
    if same left (codes "cut" ++ 10 ∷ []) then Ok (items.Cut, [])
    else (if same left (codes "unsafe" ++ 10 ∷ []) then Ok (items.Unsafe, [])
    else by_word schema (length left) (until 32 left))

-- an item, behind which nothing is left
unfoldable pub whole_item : Schema → List ℕ → Result Item ℕ
whole_item schema text =
    item_at schema text >>= λ x.
    if length x.1 == 0 then Ok x.0 else Err (length x.1)

-- the offset of what has so many bytes left
abbrev pub located : ℕ → Result Item ℕ → Result Item ℕ
located len (Ok item) = Ok item
located len (Err left) = Err (len - left)

-- the offset of the first byte that differs
abbrev pub differs_at : List ℕ → List ℕ → ℕ
differs_at = common_prefix_len nat_eq

-- where the text differs from a line, if it does
abbrev pub difference : List ℕ → List ℕ → Option ℕ
difference line text = if same line text then None else Some (differs_at line text)

abbrev pub unless_differs : Item → Option ℕ → Result Item ℕ
unless_differs item None = Ok item
unless_differs item (Some at) = Err at

-- the item, where this is its line
abbrev pub agreed : Schema → List ℕ → Item → Result Item ℕ
agreed schema text item = unless_differs item (difference (line schema item) text)

-- The item whose line the text is. Else the offset of the word that is refused, or, where the words were taken for an
-- item of another line, of the first byte that differs from it.
unfoldable pub parsed : Schema → List ℕ → Result Item ℕ
parsed schema text = located (length text) (whole_item schema text) >>= agreed schema text
