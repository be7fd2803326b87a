-- A tape on which a group is valid: three voters accept an entry, node 2 decides it, its epoch serves, and its operation polls two of them.
use Rattle.std.specs.Prelude.{List, [], ◌∷◌, ◌++◌}
use Rattle.mega_base.specs.declared.names.Epoch.{Epoch}
use Rattle.mega_wire.specs.declared.message.Body.TheVariants.{Top, Where}
use Rattle.mega_settled_laws.specs.of_tape_laws.of_promises.of_transcript.declared.item.Item.{Item}
use Rattle.mega_settled_laws.specs.of_tape_laws.of_promises.of_transcript.declared.item.Item.TheVariants.{Counts, Decide, Grant, Sent, Serving, Taken, Valid}
use Rattle.mega_settled_laws.specs.of_tape_laws.of_promises.of_transcript.Tape.{newest}
use Rattle.mega_settled_laws.specs.of_tape_laws.of_promises.Items.{number}
use Rattle.mega_settled_laws.specs.of_tape_laws.of_promises.of_rules.Examples.{entry_of, from_to, group, op_of}
use Rattle.mega_settled_laws.specs.of_tape_laws.Examples.{all_accept, first}

abbrev pub epoch : Epoch
epoch = record { start = 1; count = 0 }

-- the newest item first
abbrev pub granted : List Item
granted = Grant 2 (number 2) epoch ∷ Grant 1 (number 2) epoch ∷ Decide (number 2) group first (entry_of 1) ∷ newest all_accept

abbrev pub served : List Item
served = Serving (number 2) epoch ∷ Counts (number 2) 2 epoch ∷ Counts (number 2) 1 epoch ∷ granted

abbrev pub polling : List Item
polling = Taken 10
    ∷ Taken 9
    ∷ Sent 10 (from_to 2 2 (Top (op_of 2) group first))
    ∷ Taken 8
    ∷ Sent 9 (from_to 1 2 (Top (op_of 2) group first))
    ∷ Taken 7
    ∷ Sent 8 (from_to 2 2 (Where (op_of 2) group))
    ∷ Sent 7 (from_to 2 1 (Where (op_of 2) group))
    ∷ []

abbrev pub validated : List Item
validated = Valid (number 2) group first ∷ polling ++ served
