-- The formats of numbers, of names and of strings of bytes.
use Rattle.std.specs.Prelude.{◌≡◌, ℕ, ◌≤◌, List, ◌++◌, Ok}
use Rattle.mega_base.specs.Reading.{Place, Read, ◌>>=◌, byte_in, number_in, bytes_in}
use Rattle.mega_base.specs.Codec.{number_text, IsBetween, one_byte, bytes_text, HasLen}
use Rattle.mega_base.specs.declared.names.NodeId.{NodeId}
use Rattle.mega_base.specs.declared.names.Position.{Position}
use Rattle.mega_base.specs.declared.names.Epoch.{Epoch}
use Rattle.mega_base.specs.declared.names.OpId.{OpId}
use Rattle.mega_base.specs.declared.names.GroupId.{GroupId}

-- numbers of one, four and eight bytes
abbrev pub u8_at : Place → Read ℕ
u8_at p = byte_in 0 255 p

abbrev pub IsU8 : ℕ → Type 0
IsU8 n = IsBetween 0 255 n

abbrev pub greatest_u32 : ℕ
greatest_u32 = 4294967295

abbrev pub u32_at : Place → Read ℕ
u32_at p = number_in 4 0 4294967295 p

abbrev pub u32_text : ℕ → List ℕ
u32_text n = number_text 4 n

abbrev pub IsU32 : ℕ → Type 0
IsU32 n = IsBetween 0 4294967295 n

abbrev pub u64_at : Place → Read ℕ
u64_at p = number_in 8 0 18446744073709551615 p

abbrev pub u64_text : ℕ → List ℕ
u64_text n = number_text 8 n

abbrev pub IsU64 : ℕ → Type 0
IsU64 n = IsBetween 0 18446744073709551615 n

-- a node: a byte from 1 to 9
unfoldable pub node_at : Place → Read NodeId
node_at p =
    byte_in 1 9 p >>= λ n.
    Ok (record { 0 = n.0 }, n.1)

abbrev pub node_text : NodeId → List ℕ
node_text node = one_byte node.0

abbrev pub IsNode : NodeId → Type 0
IsNode node = IsBetween 1 9 node.0

-- a position from low to high, in eight bytes
unfoldable pub position_in : ℕ → ℕ → Place → Read Position
position_in low high p =
    number_in 8 low high p >>= λ n.
    Ok (record { 0 = n.0 }, n.1)

abbrev pub position_at : Place → Read Position
position_at p = position_in 0 18446744073709551615 p

abbrev pub position_text : Position → List ℕ
position_text position = u64_text position.0

abbrev pub IsPositionIn : ℕ → ℕ → Position → Type 0
IsPositionIn low high position = IsBetween low high position.0

abbrev pub IsPosition : Position → Type 0
IsPosition position = IsU64 position.0

-- an epoch: start and count
unfoldable pub epoch_at : Place → Read Epoch
epoch_at p =
    u32_at p >>= λ start.
    u32_at start.1 >>= λ count.
    Ok (record { start = start.0; count = count.0 }, count.1)

abbrev pub epoch_text : Epoch → List ℕ
epoch_text epoch = u32_text epoch.start ++ u32_text epoch.count

abbrev pub IsEpoch : Epoch → Type 0
IsEpoch epoch = IsU32 epoch.start × IsU32 epoch.count

-- an operation: its node, any byte, then start and number
unfoldable pub op_at : Place → Read OpId
op_at p =
    u8_at p >>= λ node.
    u32_at node.1 >>= λ start.
    u32_at start.1 >>= λ number.
    Ok (record { node = record { 0 = node.0 }; start = start.0; number = number.0 }, number.1)

abbrev pub op_text : OpId → List ℕ
op_text op = one_byte op.node.0 ++ (u32_text op.start ++ u32_text op.number)

abbrev pub IsOp : OpId → Type 0
IsOp op = IsU8 op.node.0 × IsU32 op.start × IsU32 op.number

-- a string of at most 65,536 bytes
abbrev pub string_at : Place → Read (List ℕ)
string_at p = bytes_in 0 65536 p

abbrev pub IsString : List ℕ → Type 0
IsString bytes = HasLen 0 65536 bytes

-- a group: its key
unfoldable pub group_at : Place → Read GroupId
group_at p =
    string_at p >>= λ key.
    Ok (record { key = key.0 }, key.1)

abbrev pub group_text : GroupId → List ℕ
group_text group = bytes_text group.key

abbrev pub IsGroup : GroupId → Type 0
IsGroup group = IsString group.key
