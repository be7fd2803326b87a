use Rattle.std.proofs.Common.{◌≡◌, drop}
use Rattle.mega_index.specs.Wanted.{with_fronts}
use Rattle.mega_index.proofs.listed.entries_of.Given as goal

abbrev pub invariant-loop-key : goal.invariant-loop-key
invariant-loop-key l =
    with_fronts l.front l.schema l.number l.index l.entries.entries (drop l.key-index l.rows)
    ≡ with_fronts l.front l.schema l.number l.index l.initial.entries.entries l.rows
