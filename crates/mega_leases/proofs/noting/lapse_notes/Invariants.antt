use Rattle.std.proofs.Common.{◌≡◌, ◌-◌, flat_map, take, get_or}
use Rattle.std.specs.Prelude.{None}
use Rattle.mega_locks.specs.History.{nodes}
use Rattle.mega_leases.specs.Notes.{lapsed_notes}
use Rattle.mega_leases.proofs.noting.lapse_notes.Given as goal

abbrev pub invariant-loop-before : goal.invariant-loop-before
invariant-loop-before l = l.notes ≡ flat_map (λ node. lapsed_notes node (get_or l.lapsed (node - 1) None)) (take l.before nodes)
