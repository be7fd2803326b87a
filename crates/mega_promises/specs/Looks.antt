-- When a step uses rows: it begins with full ones, or an operation looks at rows in it.
use Rattle.std.specs.Prelude.{ℕ, ◌+◌, ◌&&◌, ◌||◌, Bool, true, false, not, nat_le, [], ◌∷◌, ◌++◌, fold, is_some}
use Rattle.std.specs.List.{list_any}
use Rattle.mega_base.specs.declared.names.GroupId.{GroupId}
use Rattle.mega_base.specs.declared.names.OpId.{OpId}
use Rattle.mega_outcome.specs.declared.answer.Answer.{Answer}
use Rattle.mega_outcome.specs.declared.answer.Answer.TheVariants.{AllTurned, Batched, Committed, Conflict, Found, Read as ReadAnswer, Turned}
use Rattle.mega_outcome.specs.declared.request.Request.{Request}
use Rattle.mega_outcome.specs.declared.request.Request.TheVariants.{Find, PumpEnter, Refresh}
use Rattle.mega_wal.specs.Same.{same_op}
use Rattle.mega_rules.specs.Met.{Met, Answers}
use Rattle.mega_rules.specs.Logs.{groups_of}
use Rattle.mega_rules.specs.Operations.{Node, Operation, Proposes, Reads, Setting}
use Rattle.mega_rules.specs.Steps.{Event, Begin, Step, new_operation, op_of}

-- rows are full, and are spilled at the beginning of a step, where 1,024 versions of them stand in memory: so many writes are stored then at least
abbrev pub may_be_full : Node → Bool
may_be_full node = nat_le 1024 (fold (λ (sum : ℕ) (group : GroupId). sum + node.stored group) 0 (groups_of node.met))

-- requests that look at rows once their read is complete: a pump that enters a message looks at logs alone, and a global index is in memory
abbrev pub is_of_rows : Request → Bool
is_of_rows (Find request) = is_some request.group
is_of_rows PumpEnter = false
is_of_rows Refresh = false
is_of_rows _ = true

-- answers that come of rows, or of an entry that was made of rows
abbrev pub is_from_rows : Answer → Bool
is_from_rows (Committed position replies) = true
is_from_rows (Conflict position other) = true
is_from_rows (Turned turn) = true
is_from_rows (ReadAnswer position rows) = true
is_from_rows (Found marks rows) = true
is_from_rows (Batched position results) = true
is_from_rows (AllTurned results) = true
is_from_rows _ = false

abbrev pub is_reading : Operation → Bool
is_reading o = elim o.phase [ Reads group r ↦ true | Proposes group n asked p promised ↦ false ]

-- a step answers an operation from rows, or lets it propose
abbrev pub answers_from_rows : OpId → Met → Bool
answers_from_rows op (Answers other answer) = same_op other op && is_from_rows answer
answers_from_rows op _ = false

abbrev pub is_proposing : OpId → Operation → Bool
is_proposing op o = same_op o.id op && not (is_reading o)

-- an operation that was reading looks at rows in the step in which its read is complete, and it answers from them or proposes
abbrev pub looks : Step → Operation → Bool
looks made o =
    (is_reading o && is_of_rows o.request) && (list_any (answers_from_rows o.id) made.notes || list_any (is_proposing o.id) made.node.open_operations)

abbrev pub looks_at_rows : Setting → Node → Event → Step → Bool
looks_at_rows s node event made = list_any (looks made) (
    node.open_operations ++ (elim event [ Begin request text ↦ new_operation (op_of s node.met) request 0 ∷ [] | _ ↦ [] ]))
