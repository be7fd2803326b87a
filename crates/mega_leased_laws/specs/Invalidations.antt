-- Who tells a node to invalidate a group, and when a node says that it did.
use Rattle.std.specs.Prelude.{List}
use Rattle.mega_cluster.specs.declared.cluster.Cluster.{Cluster}
use Rattle.mega_wire.specs.declared.message.Message.{Message}
use Rattle.mega_wire.specs.declared.message.Body.{Body}
use Rattle.mega_wire.specs.declared.message.Body.TheVariants.{Invalidate, Invalidated}
use Rattle.mega_lease_laws.specs.of_run_laws.of_tape_laws.of_promises.of_transcript.declared.item.Item.{Item}
use Rattle.mega_lease_laws.specs.of_run_laws.of_tape_laws.of_promises.of_transcript.declared.item.Item.TheVariants.{Sent}
use Rattle.mega_valid_laws.specs.Leases.{MayObey, WasChosen}

-- a node that says that it is invalidated noted so behind the question
abbrev pub Obeys : List Item → Message → Body → Type 0
Obeys before m (Invalidated op group n) = MayObey before m.from op group n
Obeys before m _ = Unit {0}

abbrev pub IsObeyed : List Item → Item → Type 0
IsObeyed before (Sent key m) = Obeys before m m.body
IsObeyed before _ = Unit {0}

-- an operation tells a node to invalidate a position where a majority accepted some entry there
abbrev pub Presses : Cluster → List Item → Body → Type 0
Presses c before (Invalidate op group n) = WasChosen c before (record { group = group; position = n })
Presses c before _ = Unit {0}

abbrev pub IsPressed : Cluster → List Item → Item → Type 0
IsPressed c before (Sent key m) = Presses c before m.body
IsPressed c before _ = Unit {0}
