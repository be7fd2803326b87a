-- The blocks of 20 lines: each node's tick, operation lines, and a drain.
use Rattle.std.specs.Prelude.{ℕ, zero, suc, ◌+◌, ◌-◌, List, [], ◌∷◌, ◌++◌, Option, Some, None, if◌then◌else◌, nat_lt}
use Rattle.mega_gen.specs.declared.block.Operation.{Operation}
use Rattle.mega_gen.specs.Draws.{next, drawn}
use Rattle.mega_gen.specs.Lines.{tick_line, drain_line, crash_line, start_line, put_line, current_line, snapshot_line}

-- so many nodes tick, from this one on
abbrev pub ticks : ℕ → ℕ → ℕ → List (List ℕ)
ticks now node zero = []
ticks now node (suc more) = tick_line node now ∷ ticks now (node + 1) more

-- what the drawn numbers say: r below 6 puts a balance that is drawn, 6 and 7 read, 8 reads a snapshot, and so does 9, unless
-- another operation line is left, to start the node that it crashes
abbrev pub chosen : ℕ → ℕ → ℕ → ℕ → ℕ → Operation
chosen left state r node account =
    if nat_lt r 6 then record { line = put_line node account (drawn (next state) 1000); down = None; state = next state }
    else (if nat_lt r 8 then record { line = current_line node account; down = None; state = state }
    else (if nat_lt r 9 then record { line = snapshot_line node account; down = None; state = state }
    else (if nat_lt 0 left then record { line = crash_line node; down = Some node; state = state }
    else record { line = snapshot_line node account; down = None; state = state })))

-- a line of its own: r, the node and the account are drawn in turn; so many operation lines are left behind it
abbrev pub drawn_line : ℕ → ℕ → ℕ → Operation
drawn_line nodes left state =
    chosen left (next (next (next state))) (drawn (next state) 10) (drawn (next (next state)) nodes + 1) (drawn (next (next (next state))) 16 + 1)

abbrev pub operation : ℕ → ℕ → Option ℕ → ℕ → Operation
operation nodes left None state = drawn_line nodes left state
operation nodes left (Some node) state = record { line = start_line node; down = None; state = state }

-- so many operation lines
abbrev pub operations : ℕ → ℕ → Option ℕ → ℕ → List (List ℕ)
operations nodes zero down state = []
operations nodes (suc left) down state =
    let one = operation nodes left down state in
    one.line ∷ operations nodes left one.down one.state

-- the state of the draws after them
abbrev pub state_after : ℕ → ℕ → Option ℕ → ℕ → ℕ
state_after nodes zero down state = state
state_after nodes (suc left) down state =
    let one = operation nodes left down state in
    state_after nodes left one.down one.state

abbrev pub block : ℕ → ℕ → ℕ → List (List ℕ)
block nodes now state = ticks now 1 nodes ++ (operations nodes (19 - nodes) None state ++ drain_line ∷ [])

-- so many blocks, from this time on
abbrev pub blocks : ℕ → ℕ → ℕ → ℕ → List (List ℕ)
blocks zero nodes now state = []
blocks (suc more) nodes now state = block nodes now state ++ blocks more nodes (now + 1) (state_after nodes (19 - nodes) None state)
