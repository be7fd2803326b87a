use Rattle.std.proofs.Common.{◌≡◌, ◌++◌, map, take}
use Rattle.std.specs.List.{range_with_len}
use Rattle.mega_propose.specs.Rounds.{dead_to}
use Rattle.mega_propose.proofs.round.Site.add_deads.Given as goal

abbrev pub invariant-loop-cell : goal.invariant-loop-cell
invariant-loop-cell l = l.made ≡ l.initial.made ++ map (dead_to l.self l.node) (range_with_len 1 l.cell)
