use Rattle.mega_base.proofs.cursor.Cursor.+tail.Given as goal

abbrev pub decreases-tail : goal.decreases-tail
decreases-tail l = l.count
