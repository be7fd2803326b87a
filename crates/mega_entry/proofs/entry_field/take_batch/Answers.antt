use Rattle.std.proofs.Common.{◌<◌, arith}
use Rattle.mega_base.specs.Lists.{list_most}
use Rattle.mega_entry.specs.Entries.{write_at, send_at}
use Rattle.mega_entry.proofs.entry_field.take_batch.Goals as goal

pub overflow_cast-len : goal.overflow_cast-len
overflow_cast-len c = omega (arith, c.len.ensures, list_most 0 4294967295 write_at _ _ _ (omega arith) (omega arith) c.in_ok-writes.ensures)

pub overflow_cast-len-2 : goal.overflow_cast-len-2
overflow_cast-len-2 c = omega (arith, c.len-2.ensures, list_most 0 4294967295 send_at _ _ _ (omega arith) (omega arith) c.in_ok-sends.ensures)
