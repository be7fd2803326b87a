use Rattle.std.proofs.Common.{◌≡◌, drop}
use Rattle.mega_schema.specs.Lookup.{group_of}
use Rattle.mega_schema.proofs.lookup.group_of.Given as goal

abbrev pub invariant-loop-clause : goal.invariant-loop-clause
invariant-loop-clause l = group_of (drop l.clause-index l.clauses) ≡ group_of l.clauses
