use Rattle.std.proofs.Common.{◌≡◌}
use Rattle.mega_index.specs.Wanted.{with_fronts}
use Rattle.mega_index.proofs.Joined.{picked}
use Rattle.mega_index.proofs.gather.add_rows.Given as goal

abbrev pub invariant-loop-key : goal.invariant-loop-key
invariant-loop-key l =
    with_fronts l.front l.schema l.number l.index l.entries.entries (picked l.rows.entries l.key-iterator)
    ≡ with_fronts l.front l.schema l.number l.index l.initial.entries.entries (picked l.rows.entries l.initial.key-iterator)
