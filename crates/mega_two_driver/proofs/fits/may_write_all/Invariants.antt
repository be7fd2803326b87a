use Rattle.std.proofs.Common.{◌≡◌, drop}
use Rattle.std.specs.List.{list_all}
use Rattle.mega_two_driver.specs.Fits.{table_of}
use Rattle.mega_two_driver.specs.Tables.{may_write}
use Rattle.mega_two_driver.proofs.fits.may_write_all.Given as goal

abbrev pub invariant-loop-change : goal.invariant-loop-change
invariant-loop-change l =
    list_all (λ change. may_write l.schema l.group (table_of change)) (drop l.change-index l.changes)
    ≡ list_all (λ change. may_write l.schema l.group (table_of change)) l.changes
