-- What a pump is to serve, by the message or the group that it picks.
use Rattle.std.specs.Prelude.{ℕ, List, Option, Some, None}
use Rattle.mega_base.specs.declared.names.GroupId.{GroupId}
use Rattle.mega_rules.specs.Queues.{Posted}
use Rattle.mega_rules.specs.Operations.{Now, Operation, Setting}
use Rattle.mega_rules.specs.Acting.{Next, begins_read, has_nothing}
use Rattle.mega_pumps.specs.declared.picking.Picked.{Picked}

abbrev pub picked_message : Option Posted → Option Picked
picked_message None = None
picked_message (Some one) = Some (record { group = one.to; message = Some one.message })

abbrev pub picked_group : Option GroupId → Option Picked
picked_group None = None
picked_group (Some group) = Some (record { group = group; message = None })

-- a pump serves what it picked, and ends where that is nothing
abbrev pub serves : Setting → Now → Operation → List ℕ → Option Picked → Next
serves s now o asked None = has_nothing now o
serves s now o asked (Some picked) = begins_read s now o picked.group picked.message asked
