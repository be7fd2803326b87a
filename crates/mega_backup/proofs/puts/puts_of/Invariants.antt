use Rattle.std.proofs.Common.{◌≡◌}
use Rattle.mega_backup.specs.Restoring.{prepended, puts_of}
use Rattle.mega_backup.proofs.puts.puts_of.Given as goal

abbrev pub invariant-loop-key : goal.invariant-loop-key
invariant-loop-key l = prepended l.txns.items (puts_of l.schema l.group l.key-iterator) ≡ puts_of l.schema l.group l.rows.entries
