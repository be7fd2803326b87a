use Rattle.std.proofs.Common.{◌≡◌, drop}
use Rattle.mega_schema.specs.Rules.{lacks}
use Rattle.mega_schema.proofs.rules.lacks.Given as goal

abbrev pub invariant-loop-name : goal.invariant-loop-name
invariant-loop-name l = lacks l.table.properties (drop l.name-index l.names) ≡ lacks l.table.properties l.names
