-- What a message is to a node's cell and coordinator: the reply that is theirs, and the messages that they cannot take.
use Rattle.std.specs.Prelude.{ℕ, ◌+◌, ◌<◌, ◌≤◌, ◌^◌, ◌⊎◌, List, Option, None}
use Rattle.mega_cluster.specs.declared.cluster.Cluster.{Cluster}
use Rattle.mega_wire.specs.declared.message.Body.{Body}
use Rattle.mega_wire.specs.declared.message.Body.TheVariants.{Acquire, Dead, Granted, Invalidate}
use Rattle.mega_rules.specs.Met.{Met}
use Rattle.mega_rules.specs.Replies.{answer_to}

-- the reply to what asks the cell or the coordinator
abbrev pub reply_of : Cluster → ℕ → List Met → ℕ → Body → Option Body
reply_of c me met from (Acquire cell epoch clock) = answer_to c me met from (Acquire cell epoch clock)
reply_of c me met from (Dead op cell node) = answer_to c me met from (Dead op cell node)
reply_of c me met from (Invalidate op group position) = answer_to c me met from (Invalidate op group position)
reply_of c me met from _ = None

-- no cluster has a node of this number
abbrev pub IsNoNode : ℕ → Type 0
IsNoNode node = (node < 1) ⊎ (9 < node)

-- the cell is asked by or about a node that no cluster has
abbrev pub IsByStranger : ℕ → Body → Type 0
IsByStranger from (Acquire cell epoch clock) = IsNoNode from
IsByStranger from (Dead op cell node) = IsNoNode node.0
IsByStranger from _ = ⊥

-- a grant whose lease ends past the last time that is counted
abbrev pub IsLate : Cluster → Body → Type 0
IsLate c (Granted cell epoch clock) = 2 ^ 64 ≤ clock + c.lease
IsLate c _ = ⊥
