use Rattle.std.proofs.Common.{◌≡◌, []}
use Rattle.mega_store_tests.proofs.wal.another_entry_at_zero_is_refused_over_a_reopening.Given as goal

abbrev pub invariant-loop-leader : goal.invariant-loop-leader
invariant-loop-leader g l = l.logs.staged.items ≡ []
