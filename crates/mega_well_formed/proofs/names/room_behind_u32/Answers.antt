use Rattle.std.proofs.Common.{arith}
use Rattle.mega_base.specs.Digits.{length_number_text}
use Rattle.mega_base.specs.Names.{IsU32, u32_text}
use Rattle.mega_well_formed.proofs.Room.{fixed}
use Rattle.mega_well_formed.proofs.names.room_behind_u32.Goals as goal

pub returns : goal.returns
returns c = fixed (IsU32 c.args.number) (u32_text c.args.number) 4 c.args.room c.checked_sub.result (omega arith, omega (arith, c.ranges.number)) (length_number_text 4 c.args.number) c.checked_sub.ensures
