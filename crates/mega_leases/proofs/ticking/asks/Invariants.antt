use Rattle.std.proofs.Common.{◌≡◌, map, take}
use Rattle.mega_rules.specs.Coordinators.{acquire_to}
use Rattle.mega_leases.proofs.ticking.asks.Given as goal

abbrev pub invariant-loop-cell : goal.invariant-loop-cell
invariant-loop-cell l = l.sends ≡ map (acquire_to l.me l.epoch l.now) (take l.cell-index l.cells)
