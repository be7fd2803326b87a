use Rattle.std.proofs.Common.{◌≡◌, drop}
use Rattle.mega_schema.specs.Rules.{has_unknown}
use Rattle.mega_schema.proofs.rules.has_unknown.Given as goal

abbrev pub invariant-loop-name : goal.invariant-loop-name
invariant-loop-name l = has_unknown l.table.properties (drop l.name-index l.names) ≡ has_unknown l.table.properties l.names
