-- What a cell says of a node, by what it granted.
use Rattle.std.specs.Prelude.{List}
use Rattle.mega_wire.specs.declared.message.Message.{Message}
use Rattle.mega_wire.specs.declared.message.Body.{Body}
use Rattle.mega_wire.specs.declared.message.Body.TheVariants.{Unheld}
use Rattle.mega_lease_laws.specs.of_run_laws.of_tape_laws.of_promises.of_transcript.declared.item.Item.{Item}
use Rattle.mega_lease_laws.specs.of_run_laws.of_tape_laws.of_promises.of_transcript.declared.item.Item.TheVariants.{Sent}
use Rattle.mega_valid_laws.specs.Leases.{MayFree}

-- a cell that says that it holds nothing for a node was asked, and holds nothing
abbrev pub Frees : List Item → Message → Body → Type 0
Frees before m (Unheld op cell node) = MayFree before m.from op cell node.0
Frees before m _ = Unit {0}

abbrev pub IsFreed : List Item → Item → Type 0
IsFreed before (Sent key m) = Frees before m m.body
IsFreed before _ = Unit {0}
