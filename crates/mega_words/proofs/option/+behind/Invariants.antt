use Rattle.std.proofs.Common.{length}
use Rattle.mega_words.proofs.option.+behind.Given as goal

abbrev pub decreases-behind : goal.decreases-behind
decreases-behind l = length l.name.now
