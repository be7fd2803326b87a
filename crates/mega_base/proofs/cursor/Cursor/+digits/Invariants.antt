use Rattle.mega_base.proofs.cursor.Cursor.+digits.Given as goal

abbrev pub decreases-digits : goal.decreases-digits
decreases-digits l = l.count
