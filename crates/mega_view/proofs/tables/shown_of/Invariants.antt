use Rattle.std.proofs.Common.{◌≡◌, ◌++◌, map, Some}
use Rattle.mega_view.proofs.tables.shown_of.Given as goal

abbrev pub invariant-loop-one : goal.invariant-loop-one
invariant-loop-one l = l.shown ++ map Some l.one-iterator ≡ map Some l.initial.one-iterator
