-- Numbers and names that their fields hold.
use Rattle.std.specs.Prelude.{ℕ, ◌≤◌}
use Rattle.hex.specs.Hex.{IsBytes}
use Rattle.mega_base.specs.declared.names.NodeId.{NodeId}
use Rattle.mega_base.specs.declared.names.Position.{Position}
use Rattle.mega_base.specs.declared.names.Epoch.{Epoch}
use Rattle.mega_base.specs.declared.names.OpId.{OpId}
use Rattle.mega_base.specs.declared.names.GroupId.{GroupId}

-- numbers that their fields hold
abbrev pub IsU8 : ℕ → Type 0
IsU8 n = n ≤ 255

abbrev pub IsU32 : ℕ → Type 0
IsU32 n = n ≤ 4294967295

abbrev pub IsU64 : ℕ → Type 0
IsU64 n = n ≤ 18446744073709551615

abbrev pub IsNode : NodeId → Type 0
IsNode node = IsU8 node.0

abbrev pub IsPosition : Position → Type 0
IsPosition position = IsU64 position.0

abbrev pub IsEpoch : Epoch → Type 0
IsEpoch epoch = IsU32 epoch.start × IsU32 epoch.count

abbrev pub IsOp : OpId → Type 0
IsOp op = IsNode op.node × (IsU32 op.start × IsU32 op.number)

abbrev pub IsGroup : GroupId → Type 0
IsGroup group = IsBytes group.key
