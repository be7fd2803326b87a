use Rattle.std.proofs.Common.{◌+◌, length, arith, subst}
use Rattle.mega_base.specs.Codec.{bytes_text}
use Rattle.mega_base.specs.Utf8.{IsTextIn}
use Rattle.mega_well_formed.specs.Room.{Leaves}
use Rattle.mega_well_formed.proofs.Room.{bytes_length, fixed}
use Rattle.mega_well_formed.proofs.names.room_behind_text.Goals as goal

pub returns : goal.returns
returns c =
    let bytes = c.as_bytes-bytes.result.now in
    subst (λ bytes. Leaves (IsTextIn c.args.low c.args.high bytes) (bytes_text bytes) c.args.room c.checked_sub.result) c.as_bytes-bytes.ensures.value
    (fixed (IsTextIn c.args.low c.args.high bytes) (bytes_text bytes) (4 + length bytes) c.args.room c.checked_sub.result (c.as_bytes-bytes.ensures.utf8, (c.if-bytes-low.false, c.if-high-bytes.false)) (bytes_length bytes) c.checked_sub.ensures)
