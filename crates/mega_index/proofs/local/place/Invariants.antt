use Rattle.std.proofs.Common.{◌≡◌}
use Rattle.mega_index.specs.Entries.{placed}
use Rattle.mega_index.proofs.local.place.Given as goal

abbrev pub invariant-loop-key : goal.invariant-loop-key
invariant-loop-key l = l.entries.entries ≡ placed l.initial.entries.entries l.stored l.yielded
