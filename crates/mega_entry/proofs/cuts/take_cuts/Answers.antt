use Rattle.std.proofs.Common.{◌+◌, ◌≤◌, arith}
use Rattle.mega_base.specs.Digits.{number_codec}
use Rattle.mega_base.specs.Codec.{IsBetween}
use Rattle.mega_entry.specs.EntryLaws.{index_room}
use Rattle.mega_entry.proofs.cuts.take_cuts.Goals as goal

pub take_cuts_of-requires-clause-room : goal.take_cuts_of-requires-clause-room
take_cuts_of-requires-clause-room c =
    rw c.least_first.ensures (index_room c.in_ok-count.count ((number_codec 4 1 16 (omega arith) (omega arith)).takes _ _ _ c.in_ok-count.ensures).1)

pub take_cuts_of-requires-clause-some : goal.take_cuts_of-requires-clause-some
take_cuts_of-requires-clause-some c = ((number_codec 4 1 16 (omega arith) (omega arith)).takes _ _ _ c.in_ok-count.ensures).1.0
