use Rattle.std.proofs.Common.{arith}
use Rattle.mega_base.specs.Digits.{length_number_text}
use Rattle.mega_base.specs.Names.{IsU64, u64_text}
use Rattle.mega_well_formed.proofs.Room.{fixed}
use Rattle.mega_well_formed.proofs.names.room_behind_u64.Goals as goal

pub returns : goal.returns
returns c = fixed (IsU64 c.args.number) (u64_text c.args.number) 8 c.args.room c.checked_sub.result (omega arith, omega (arith, c.ranges.number)) (length_number_text 8 c.args.number) c.checked_sub.ensures
