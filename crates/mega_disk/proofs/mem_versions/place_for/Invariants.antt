use Rattle.mega_disk.proofs.Rows.{AreBelow}
use Rattle.mega_disk.proofs.mem_versions.place_for.Given as goal

abbrev pub invariant-loop-i : goal.invariant-loop-i
invariant-loop-i l = AreBelow l.rows l.key l.i
