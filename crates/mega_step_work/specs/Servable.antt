-- What is served: transactions, batches of at most 16 of them, reads, finds, pumps and refreshes.
use Rattle.std.specs.Prelude.{Bool, true, false, not, ◌&&◌, ◌||◌, nat_le, length, List, [], ◌∷◌, Option, Some, None, is_none, is_some}
use Rattle.mega_base.specs.declared.names.GroupId.{GroupId}
use Rattle.mega_outcome.specs.declared.request.Mode.{Mode}
use Rattle.mega_outcome.specs.declared.request.Mode.TheVariants.{Current}
use Rattle.mega_outcome.specs.declared.request.Request.{Request}
use Rattle.mega_outcome.specs.declared.request.Request.TheVariants.{Txn, Batch, Read, Find, PumpEnter, PumpHandle, Refresh}
use Rattle.mega_outcome.specs.declared.transaction.RowRef.{RowRef}
use Rattle.mega_rules.specs.Steps.{is_current}

-- a read names rows, or shows all of them
abbrev pub is_named : List RowRef → Bool
is_named [] = false
is_named (row ∷ rows) = true

-- requests whose entry is proposed
abbrev pub is_proposed : Request → Bool
is_proposed (Txn transaction) = true
is_proposed (Batch group transactions) = nat_le (length transactions) 16
is_proposed (Read request) = false
is_proposed (Find request) = false
is_proposed PumpEnter = false
is_proposed PumpHandle = false
is_proposed Refresh = false

-- the group of whose rows alone a request is to be answered, where it is one, and the mode in which it looks at them
abbrev pub group_asked : Request → Option GroupId
group_asked (Txn transaction) = None
group_asked (Batch group transactions) = None
group_asked (Read request) = Some request.group
group_asked (Find request) = request.group
group_asked PumpEnter = None
group_asked PumpHandle = None
group_asked Refresh = None

abbrev pub mode_asked : Request → Mode
mode_asked (Txn transaction) = Current
mode_asked (Batch group transactions) = Current
mode_asked (Read request) = request.mode
mode_asked (Find request) = request.mode
mode_asked PumpEnter = Current
mode_asked PumpHandle = Current
mode_asked Refresh = Current

-- requests that are answered by the rows of their group alone
abbrev pub is_answered : Request → Bool
is_answered request = is_some (group_asked request)

-- those of them that are answered at once, by the rows that are there
abbrev pub is_at_once : Request → Bool
is_at_once request = is_answered request && not (is_current (mode_asked request))

-- requests that the node's global indexes answer, at once
abbrev pub is_indexed : Request → Bool
is_indexed (Txn transaction) = false
is_indexed (Batch group transactions) = false
is_indexed (Read request) = false
is_indexed (Find request) = is_none request.group
is_indexed PumpEnter = false
is_indexed PumpHandle = false
is_indexed Refresh = true

-- pumps
abbrev pub is_pump : Request → Bool
is_pump (Txn transaction) = false
is_pump (Batch group transactions) = false
is_pump (Read request) = false
is_pump (Find request) = false
is_pump PumpEnter = true
is_pump PumpHandle = true
is_pump Refresh = false

-- requests whose operation looks at one group alone, that of its request
abbrev pub is_plain : Request → Bool
is_plain request = is_proposed request || is_answered request

-- requests whose operations may stay open, and all that are served
abbrev pub is_open : Request → Bool
is_open request = is_pump request || is_plain request

abbrev pub is_served : Request → Bool
is_served request = is_indexed request || is_open request
