use Rattle.std.proofs.Common.{◌≡◌, drop}
use Rattle.mega_schema.specs.Rules.{kinds_differ}
use Rattle.mega_schema.proofs.rules.kinds_differ.Given as goal

abbrev pub invariant-loop-name : goal.invariant-loop-name
invariant-loop-name l = kinds_differ l.table.properties (drop l.name-index l.key) l.others l.rest ≡ kinds_differ l.table.properties l.key l.others l.primary
