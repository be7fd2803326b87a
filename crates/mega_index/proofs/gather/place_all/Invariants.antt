use Rattle.std.proofs.Common.{◌≡◌}
use Rattle.std.specs.Prelude.{filter}
use Rattle.std.specs.Vec.Iter.{into_iter_items}
use Rattle.mega_index.specs.Entries.{placed}
use Rattle.mega_index.specs.Wanted.{begins}
use Rattle.mega_index.proofs.gather.place_all.Given as goal

abbrev pub invariant-loop-key : goal.invariant-loop-key
invariant-loop-key l =
    placed l.entries.entries l.found (filter (begins l.front) (into_iter_items l.key-iterator))
    ≡ placed l.initial.entries.entries l.found (filter (begins l.front) (into_iter_items l.initial.key-iterator))
