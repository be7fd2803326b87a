use Rattle.std.proofs.Common.{◌≡◌, drop}
use Rattle.mega_schema.specs.Lookup.{inside_of}
use Rattle.mega_schema.proofs.lookup.inside_of.Given as goal

abbrev pub invariant-loop-clause : goal.invariant-loop-clause
invariant-loop-clause l = inside_of (drop l.clause-index l.clauses) ≡ inside_of l.clauses
