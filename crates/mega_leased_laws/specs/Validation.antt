-- By what a group becomes valid.
use Rattle.std.specs.Prelude.{List}
use Rattle.mega_cluster.specs.declared.cluster.Cluster.{Cluster}
use Rattle.mega_lease_laws.specs.of_run_laws.of_tape_laws.of_promises.of_transcript.declared.item.Item.{Item}
use Rattle.mega_lease_laws.specs.of_run_laws.of_tape_laws.of_promises.of_transcript.declared.item.Item.TheVariants.{Valid}
use Rattle.mega_valid_laws.specs.Leases.{MayBeValid}

-- a group is valid by a poll that began while the present epoch served, through a decided position, above each that was invalidated since
abbrev pub IsValidated : Cluster → List Item → Item → Type 0
IsValidated c before (Valid node group p) = MayBeValid c before node.0 group p
IsValidated c before _ = Unit {0}
