use Rattle.std.proofs.Common.{◌+◌, length, arith}
use Rattle.mega_base.specs.Codec.{bytes_text}
use Rattle.mega_base.specs.Names.{IsString}
use Rattle.mega_well_formed.proofs.Room.{bytes_length, fixed}
use Rattle.mega_well_formed.proofs.names.room_behind_string.Goals as goal

pub returns : goal.returns
returns c =
    fixed (IsString c.args.bytes.now) (bytes_text c.args.bytes.now) (4 + length c.args.bytes.now) c.args.room c.checked_sub.result (omega arith, c.if-bytes-gt-LONGEST.false) (bytes_length c.args.bytes.now) c.checked_sub.ensures
