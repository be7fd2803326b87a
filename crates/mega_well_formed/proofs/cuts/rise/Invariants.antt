use Rattle.std.proofs.Common.{drop}
use Rattle.mega_entry.specs.Entries.{RisesFrom}
use Rattle.mega_well_formed.proofs.Deciding.{Decides}
use Rattle.mega_well_formed.proofs.cuts.rise.Given as goal

abbrev pub invariant-loop-cut : goal.invariant-loop-cut
invariant-loop-cut l = Decides (RisesFrom l.low (drop l.cut-index l.cuts)) (RisesFrom l.first l.cuts)
