-- By what epochs are granted, counted and served.
use Rattle.std.specs.Prelude.{◌≡◌, false, List, None, Some}
use Rattle.mega_base.specs.declared.names.Epoch.{Epoch}
use Rattle.mega_wal.specs.History.{is_epoch_below}
use Rattle.mega_lease_laws.specs.of_run_laws.of_tape_laws.of_promises.of_transcript.declared.item.Item.{Item}
use Rattle.mega_lease_laws.specs.of_run_laws.of_tape_laws.of_promises.of_transcript.declared.item.Item.TheVariants.{Counts, Grant, Serving}
use Rattle.mega_lease_laws.specs.of_run_laws.of_tape_laws.of_promises.Promises.{Stands}
use Rattle.mega_valid_laws.specs.Leases.{MayServe, serving_on}

-- no epoch is granted above one that serves; a cell is counted that granted the epoch, while none serves; and an epoch serves once, with none above it
abbrev pub IsServing : List Item → Item → Type 0
IsServing before (Grant cell node epoch) = (now : Epoch) → serving_on before node.0 ≡ Some now → is_epoch_below now epoch ≡ false
IsServing before (Counts node cell epoch) = Stands (Grant cell node epoch) before × (serving_on before node.0 ≡ None)
IsServing before (Serving node epoch) = MayServe before node epoch
IsServing before _ = Unit {0}
