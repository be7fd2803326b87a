use Rattle.std.proofs.Common.{◌-◌, flat_map, drop, get_or}
use Rattle.std.specs.Prelude.{None}
use Rattle.mega_locks.specs.History.{Represents, nodes}
use Rattle.mega_rules.specs.Locks.{reopening}
use Rattle.mega_leases.proofs.leases.reopened.Given as goal

abbrev pub invariant-loop-done : goal.invariant-loop-done
invariant-loop-done l = Represents l.cell (flat_map (λ node. reopening node (get_or l.grants (node - 1) None)) (drop (9 - l.done) nodes))
