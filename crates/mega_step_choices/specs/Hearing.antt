-- Which operation a message is for.
use Rattle.std.specs.Prelude.{Bool, false, Option, Some, None}
use Rattle.mega_base.specs.declared.names.OpId.{OpId}
use Rattle.mega_propose.specs.of_wire.declared.message.Body.{Body}
use Rattle.mega_propose.specs.of_wire.declared.message.Body.TheVariants.{Top, Accept, Accepted, Refused, Prepare, Promise, Invalidated, Unheld, HaveNot}
use Rattle.mega_propose.specs.of_wal.Same.{same_op}

-- the operation of which a message says something to the node that takes it
abbrev pub op_in : Body → Option OpId
op_in (Top op group top) = Some op
op_in (Accept op group position ballot entry) = Some op
op_in (Accepted op group position ballot entry) = Some op
op_in (Refused op group position asked shown entry) = Some op
op_in (Prepare op group position ballot) = Some op
op_in (Promise op group position ballot vote) = Some op
op_in (Invalidated op group position) = Some op
op_in (Unheld op cell node) = Some op
op_in (HaveNot op group position) = Some op
op_in _ = None

abbrev pub is_own : OpId → Option OpId → Bool
is_own own None = false
is_own own (Some op) = same_op own op

abbrev pub is_for : OpId → Body → Bool
is_for own body = is_own own (op_in body)
