-- Which group an open operation is about: the one that its request names.
use Rattle.std.specs.Prelude.{◌≡◌, Some}
use Rattle.mega_base.specs.declared.names.GroupId.{GroupId}
use Rattle.mega_outcome.specs.declared.request.Request.{Request}
use Rattle.mega_outcome.specs.declared.request.Request.TheVariants.{Txn, Batch, Read, Find, PumpEnter, PumpHandle, Refresh}
use Rattle.mega_voter.specs.of_rules.Operations.{Operation, Phase, Proposes, Reads}

abbrev pub IsOf : Request → GroupId → Type 0
IsOf (Txn transaction) group = transaction.group ≡ group
IsOf (Batch own transactions) group = own ≡ group
IsOf (Read request) group = request.group ≡ group
IsOf (Find request) group = request.group ≡ Some group
IsOf PumpEnter group = Unit {0}
IsOf PumpHandle group = Unit {0}
IsOf Refresh group = Unit {0}

abbrev pub group_in : Phase → GroupId
group_in (Reads group reading) = group
group_in (Proposes group position asked proposal promised) = group

-- an operation reads, and proposes in, the group of its request; a pump may in any
abbrev pub IsAbout : Operation → Type 0
IsAbout o = IsOf o.request (group_in o.phase)
