use Rattle.std.proofs.Common.{◌≡◌, drop}
use Rattle.mega_schema.specs.Rules.{begins_with}
use Rattle.mega_schema.proofs.rules.begins_with.Given as goal

abbrev pub invariant-loop-name : goal.invariant-loop-name
invariant-loop-name l = begins_with (drop l.name-index l.front) l.rest ≡ begins_with l.front l.names
