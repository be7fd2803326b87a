use Rattle.std.proofs.Common.{◌≡◌}
use Rattle.mega_index.specs.Wanted.{with_fronts}
use Rattle.mega_index.proofs.Joined.{picked_groups}
use Rattle.mega_index.proofs.gather.gather.Given as goal

abbrev pub invariant-loop-group : goal.invariant-loop-group
invariant-loop-group l =
    with_fronts l.front l.schema l.number l.index l.entries.entries (picked_groups l.groups.entries l.group-iterator)
    ≡ with_fronts l.front l.schema l.number l.index l.initial.entries.entries (picked_groups l.groups.entries l.initial.group-iterator)
