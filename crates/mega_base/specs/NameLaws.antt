-- The laws of these formats.
use Rattle.std.proofs.Common.{◌≡◌, ℕ, ◌≤◌, ◌<◌, ◌^◌, List, ◌++◌, refl, sym, ap, arith}
use Rattle.mega_base.specs.Reading.{Place, Read, ◌>>=◌, byte_in, number_in, bytes_in}
use Rattle.mega_base.specs.Codec.{number_text, Codec, IsText, IsBetween, one_byte, bytes_text, HasLen}
use Rattle.mega_base.specs.Names.{u8_at, IsU8, u32_at, u32_text, IsU32, u64_at, u64_text, IsU64, node_at, node_text, IsNode, position_in, position_at, position_text, IsPositionIn, IsPosition, epoch_at, epoch_text, IsEpoch, op_at, op_text, IsOp, string_at, IsString, group_at, group_text, IsGroup}
use Rattle.mega_base.specs.declared.names.NodeId.{NodeId}
use Rattle.mega_base.specs.declared.names.Position.{Position}
use Rattle.mega_base.specs.declared.names.Epoch.{Epoch}
use Rattle.mega_base.specs.declared.names.OpId.{OpId}
use Rattle.mega_base.specs.declared.names.GroupId.{GroupId}
use Rattle.mega_base.specs.Codecs.{byte_codec, then_codec, map_codec, fits_codec}
use Rattle.mega_base.specs.Digits.{number_codec}
use Rattle.mega_base.specs.Lists.{bytes_codec}
use Rattle.mega_base.specs.Utf8.{whole_text_at, IsWholeText}
use Rattle.mega_base.specs.Chars.{text_codec}

-- the texts of the grammar begin themselves
pub own_text : {A : Type 0} (s : A → List ℕ) (F : A → Type 0) (x : A) → F x → IsText s F (s x)
own_text s F x f = (x, f, refl)

pub u8_codec : Codec u8_at one_byte (IsText one_byte IsU8) IsU8
u8_codec = byte_codec 0 255 (omega arith)

pub u32_codec : Codec u32_at u32_text (IsText u32_text IsU32) IsU32
u32_codec = number_codec 4 0 4294967295 (omega arith) (omega arith)

pub u64_codec : Codec u64_at u64_text (IsText u64_text IsU64) IsU64
u64_codec = number_codec 8 0 18446744073709551615 (omega arith) (omega arith)

pub node_codec : Codec node_at node_text (IsText node_text IsNode) IsNode
unfolding node_at
node_codec =
    fits_codec node_at node_text (λ node. IsBetween 1 9 node.0 × (record { 0 = node.0 } ≡ node)) IsNode
    (map_codec (byte_in 1 9) one_byte (IsBetween 1 9) (λ n. record { 0 = n }) (λ (node : NodeId). node.0) (byte_codec 1 9 (omega arith)) (λ n. refl))
    (λ node f. f.0) (λ node f. (f, refl))

pub position_codec : (low high : ℕ) → low ≤ high → high < 256 ^ 8 → Codec (position_in low high) position_text (IsText position_text (IsPositionIn low high)) (IsPositionIn low high)
unfolding position_in
position_codec low high order small =
    fits_codec (position_in low high) position_text (λ position. IsBetween low high position.0 × (record { 0 = position.0 } ≡ position)) (IsPositionIn low high)
    (map_codec (number_in 8 low high) u64_text (IsBetween low high) (λ n. record { 0 = n }) (λ (position : Position). position.0) (number_codec 8 low high order small) (λ n. refl))
    (λ position f. f.0) (λ position f. (f, refl))

pub epoch_codec : Codec epoch_at epoch_text (IsText epoch_text IsEpoch) IsEpoch
unfolding epoch_at
epoch_codec =
    fits_codec epoch_at epoch_text _ IsEpoch
    (then_codec u32_at u32_text IsU32 _ _ _ (λ (epoch : Epoch). epoch.start) u32_codec
    (λ start f. map_codec u32_at u32_text IsU32 (λ count. record { start = start; count = count }) (λ (epoch : Epoch). epoch.count) u32_codec (λ count. refl))
    (λ start epoch f g. ap (λ (e : Epoch). e.start) (sym g.1))
    (λ start f. (record { start = start; count = 0 }, ((omega arith, omega arith), refl))))
    (λ epoch f. (f.0, f.1.0)) (λ epoch f. (f.0, (f.1, refl)))

pub op_codec : Codec op_at op_text (IsText op_text IsOp) IsOp
unfolding op_at
op_codec =
    fits_codec op_at op_text _ IsOp
    (then_codec u8_at one_byte IsU8 _ _ _ (λ (op : OpId). op.node.0) u8_codec
    (λ node f. then_codec u32_at u32_text IsU32 _ _ _ (λ (op : OpId). op.start) u32_codec
    (λ start f. map_codec u32_at u32_text IsU32 (λ number. record { node = record { 0 = node }; start = start; number = number }) (λ (op : OpId). op.number) u32_codec (λ number. refl))
    (λ start op f g. ap (λ (o : OpId). o.start) (sym g.1))
    (λ start f. (record { node = record { 0 = node }; start = start; number = 0 }, ((omega arith, omega arith), refl))))
    (λ node op f g. ap (λ (o : OpId). o.node.0) (sym g.1.1))
    (λ node f. (record { node = record { 0 = node }; start = 0; number = 0 }, ((omega arith, omega arith), ((omega arith, omega arith), refl)))))
    (λ op f. (f.0, f.1.0, f.1.1.0)) (λ op f. (f.0, (f.1, (f.2, refl))))

pub string_codec : Codec string_at bytes_text (IsText bytes_text IsString) IsString
string_codec = bytes_codec 0 65536 (omega arith) (omega arith)

pub group_codec : Codec group_at group_text (IsText group_text IsGroup) IsGroup
unfolding group_at
group_codec =
    fits_codec group_at group_text _ IsGroup
    (map_codec string_at bytes_text IsString (λ key. record { key = key }) (λ (group : GroupId). group.key) string_codec (λ key. refl))
    (λ group f. f.0) (λ group f. (f, refl))

pub any_position_codec : Codec position_at position_text (IsText position_text IsPosition) IsPosition
any_position_codec = position_codec 0 18446744073709551615 (omega arith) (omega arith)

pub whole_text_codec : Codec whole_text_at bytes_text (IsText bytes_text IsWholeText) IsWholeText
whole_text_codec = text_codec 0 65536 (omega arith) (omega arith)
