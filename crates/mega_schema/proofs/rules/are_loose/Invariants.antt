use Rattle.std.proofs.Common.{◌≡◌, drop}
use Rattle.std.specs.List.{list_any}
use Rattle.mega_schema.specs.Rules.{is_loose}
use Rattle.mega_schema.proofs.rules.are_loose.Given as goal

abbrev pub invariant-loop-name : goal.invariant-loop-name
invariant-loop-name l = list_any (λ n. is_loose l.table.properties n) (drop l.name-index l.names) ≡ list_any (λ n. is_loose l.table.properties n) l.names
