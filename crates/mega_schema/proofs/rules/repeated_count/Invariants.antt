use Rattle.std.proofs.Common.{◌≡◌, take}
use Rattle.mega_schema.specs.Rules.{repeated_count}
use Rattle.mega_schema.proofs.rules.repeated_count.Given as goal

abbrev pub invariant-loop-name : goal.invariant-loop-name
invariant-loop-name l = l.count ≡ repeated_count l.table.properties (take l.name-index l.names)
