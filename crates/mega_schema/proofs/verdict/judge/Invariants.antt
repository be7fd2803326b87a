use Rattle.std.proofs.Common.{◌≡◌, drop}
use Rattle.mega_schema.specs.Verdict.{judge}
use Rattle.mega_schema.proofs.verdict.judge.Given as goal

abbrev pub invariant-loop-placed : goal.invariant-loop-placed
invariant-loop-placed l = judge l.schema (drop l.placed-index l.statements) ≡ judge l.fn.start l.statements
