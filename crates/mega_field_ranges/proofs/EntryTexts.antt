-- The text of an entry of the format that holds what its types do is of bytes.
use Rattle.std.proofs.Common.{ℕ, ◌+◌, ◌≤◌, Bool, true, false, List, [], ◌∷◌, length, Option, Some, None, arith}
use Rattle.std.specs.Prelude.{flat_map}
use Rattle.std.specs.Int.{cast_unsigned, w32, w64}
use Rattle.std.specs.List.{AllByRecursion}
use Rattle.std.proofs.lemmas.List.Elements.{recursion_from_All}
use Rattle.mega_base.specs.declared.names.GroupId.{GroupId}
use Rattle.mega_base.specs.declared.names.OpId.{OpId}
use Rattle.mega_base.specs.declared.values.Cell.{Cell}
use Rattle.mega_base.specs.declared.values.Row.{Row}
use Rattle.mega_base.specs.declared.values.Value.{Value}
use Rattle.mega_base.specs.declared.values.Value.TheVariants.{Int32, Int64, Bool as Truth, Str, Raw}
use Rattle.mega_base.specs.Codec.{IsOption, option_text}
use Rattle.mega_base.specs.Names.{IsOp, group_text, op_text}
use Rattle.mega_base.specs.Values.{IsRow, bit_of, cell_text, row_text, value_text}
use Rattle.mega_entry.specs.declared.content.Content.{Content}
use Rattle.mega_entry.specs.declared.content.Cut.{Cut}
use Rattle.mega_entry.specs.declared.content.Enter.{Enter}
use Rattle.mega_entry.specs.declared.content.Name.{Name}
use Rattle.mega_entry.specs.declared.content.Send.{Send}
use Rattle.mega_entry.specs.declared.content.Write.{Write}
use Rattle.mega_entry.specs.Entries.{HasCuts, IsEntry, IsWrite, RisesFrom, cut_text, cuts_text, enter_text, entry_text, first_index, name_text, send_text, version_of, write_text}
use Rattle.mega_field_ranges.specs.Entries.{HoldsContent, HoldsEnter, HoldsName, HoldsSend, HoldsWrite, HoldsWritten}
use Rattle.mega_transcript.specs.PlainNames.{IsGroup}
use Rattle.mega_transcript.specs.PlainRows.{IsHeld}
use Rattle.mega_field_ranges.specs.Held.{HoldsCell, HoldsRow}
use Rattle.mega_field_ranges.proofs.Bytes.{AreBytes, both_bytes, byte_alone, counted_bytes, each_bytes, list_bytes, no_bytes, number_bytes, text_bytes}

-- ---- names

pub op_bytes : (op : OpId) → IsOp op → AreBytes (op_text op)
op_bytes op is = both_bytes (byte_alone op.node.0 is.0.1) (both_bytes (number_bytes 4 op.start) (number_bytes 4 op.number))

pub group_bytes : (group : GroupId) → IsGroup group → AreBytes (group_text group)
group_bytes group held = counted_bytes group.key held

-- ---- rows

bit_bytes : (b : Bool) → AreBytes (bit_of b ∷ [])
bit_bytes true = byte_alone 1 (omega arith)
bit_bytes false = byte_alone 0 (omega arith)

value_bytes : (value : Value) → IsHeld value → AreBytes (value_text value)
value_bytes (Int32 z) held = both_bytes (byte_alone 1 (omega arith)) (number_bytes 4 (cast_unsigned w32 z))
value_bytes (Int64 z) held = both_bytes (byte_alone 2 (omega arith)) (number_bytes 8 (cast_unsigned w64 z))
value_bytes (Truth b) held = both_bytes (byte_alone 3 (omega arith)) (bit_bytes b)
value_bytes (Str text) held = both_bytes (byte_alone 4 (omega arith)) (counted_bytes text (text_bytes text held))
value_bytes (Raw bytes) held = both_bytes (byte_alone 5 (omega arith)) (counted_bytes bytes held)

cell_bytes : (cell : Cell) → HoldsCell cell → AreBytes (cell_text cell)
cell_bytes cell held = both_bytes (byte_alone cell.property held.0) (list_bytes value_text IsHeld value_bytes cell.values held.1)

row_bytes : (row : Row) → length row.cells ≤ 255 → HoldsRow row → AreBytes (row_text row)
row_bytes row few held = both_bytes (byte_alone (length row.cells) few) (each_bytes cell_text HoldsCell cell_bytes row.cells held)

-- ---- writes, sends, enters and handles

written_bytes : (row : Option Row) → IsOption IsRow row → HoldsWritten row → AreBytes (option_text row_text row)
written_bytes None is held = byte_alone 0 (omega arith)
written_bytes (Some row) is held = both_bytes (byte_alone 1 (omega arith)) (row_bytes row is.few held)

write_bytes : (write : Write) → IsWrite write → HoldsWrite write → AreBytes (write_text write)
write_bytes write is held = both_bytes (counted_bytes write.key held.0) (written_bytes write.row is.1 held.1)

each_write : (writes : List Write) → AllByRecursion IsWrite writes → AllByRecursion HoldsWrite writes → AreBytes (flat_map write_text writes)
each_write [] are held = no_bytes
each_write (write ∷ writes) are held = both_bytes (write_bytes write are.0 held.0) (each_write writes are.1 held.1)

name_bytes : (name : Name) → HoldsName name → AreBytes (name_text name)
name_bytes name held = both_bytes (group_bytes name.group held) (both_bytes (number_bytes 8 name.position.0) (number_bytes 4 name.place))

send_bytes : (send : Send) → HoldsSend send → AreBytes (send_text send)
send_bytes send held = both_bytes (group_bytes send.to held.0) (both_bytes (counted_bytes send.queue held.1.0) (counted_bytes send.payload held.1.1))

enter_bytes : (enter : Enter) → HoldsEnter enter → AreBytes (enter_text enter)
enter_bytes enter held = both_bytes (name_bytes enter.name held.0) (both_bytes (counted_bytes enter.queue held.1.0) (counted_bytes enter.payload held.1.1))

-- ---- cuts

each_cut : (low : ℕ) (cuts : List Cut) → RisesFrom low cuts → AreBytes (flat_map cut_text cuts)
each_cut low [] rises = no_bytes
each_cut low (cut ∷ cuts) rises =
    both_bytes (both_bytes (byte_alone cut.index (omega (arith, rises.0.1))) (both_bytes (number_bytes 4 cut.writes) (number_bytes 4 cut.sends))) (each_cut (cut.index + 1) cuts rises.1)

cuts_bytes : (e : Content) (cuts : List Cut) → HasCuts e cuts → AreBytes (cuts_text cuts)
cuts_bytes e [] has = no_bytes
cuts_bytes e (cut ∷ cuts) has = both_bytes (number_bytes 4 (length (cut ∷ cuts))) (each_cut (first_index (length (cut ∷ cuts))) (cut ∷ cuts) has.3.rising)

version_bytes : (cuts : List Cut) → AreBytes (version_of cuts ∷ [])
version_bytes [] = byte_alone 1 (omega arith)
version_bytes (cut ∷ cuts) = byte_alone 2 (omega arith)

-- ---- the whole

id_bytes : (id : Option OpId) → IsOption IsOp id → AreBytes (option_text op_text id)
id_bytes None is = byte_alone 0 (omega arith)
id_bytes (Some op) is = both_bytes (byte_alone 1 (omega arith)) (op_bytes op is)

pub entry_bytes : (e : Content) → IsEntry e → HoldsContent e → AreBytes (entry_text e)
entry_bytes e is held =
    both_bytes (version_bytes e.cuts)
    (both_bytes (id_bytes e.id is.id)
    (both_bytes (byte_alone e.leader.0 (omega (arith, is.leader.1)))
    (both_bytes (both_bytes (number_bytes 4 (length e.writes)) (each_write e.writes (recursion_from_All IsWrite e.writes is.writes.each) held.writes))
    (both_bytes (list_bytes send_text HoldsSend send_bytes e.sends held.sends)
    (both_bytes (list_bytes enter_text HoldsEnter enter_bytes e.enters held.enters)
    (both_bytes (list_bytes name_text HoldsName name_bytes e.handles held.handles) (cuts_bytes e e.cuts is.cuts)))))))
