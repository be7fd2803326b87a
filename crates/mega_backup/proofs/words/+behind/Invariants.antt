use Rattle.std.proofs.Common.{length}
use Rattle.mega_backup.proofs.words.+behind.Given as goal

abbrev pub decreases-behind : goal.decreases-behind
decreases-behind l = length l.word.now
