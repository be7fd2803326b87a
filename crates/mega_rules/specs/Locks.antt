-- What a node's lock cell was asked, in the words of its rule, and what it answers.
use Rattle.std.specs.Prelude.{ℕ, ◌==◌, ◌&&◌, Bool, true, false, if◌then◌else◌, List, [], ◌∷◌, ◌++◌, flat_map, Option, Some, None}
use Rattle.mega_base.specs.declared.names.Epoch.{Epoch}
use Rattle.mega_base.specs.declared.names.NodeId.{NodeId}
use Rattle.mega_base.specs.declared.names.OpId.{OpId}
use Rattle.mega_cluster.specs.declared.cluster.Cluster.{Cluster}
use Rattle.mega_read.specs.of_wire.declared.message.Message.{Message}
use Rattle.mega_read.specs.of_wire.declared.message.Body.{Body}
use Rattle.mega_read.specs.of_wire.declared.message.Body.TheVariants.{Acquire, Dead, Granted as GrantedBody, Held, Past, Unheld}
use Rattle.mega_locks.specs.declared.asked.Asked.{Asked}
use Rattle.mega_locks.specs.declared.asked.Asked.TheVariants.{Granted, GreaterHeld, Over}
use Rattle.mega_locks.specs.History.{Call, Reopens, Asks, Ticks as CellTicks, held_for, lapse_for, lock_of, nodes}
use Rattle.mega_locks.specs.Rule.{answer}
use Rattle.mega_replica.specs.of_wal.History.{after_grant, after_lapse}
use Rattle.mega_rules.specs.Met.{Met, Starts, Ticks, Takes, Grants, Lapses}
use Rattle.mega_rules.specs.Clock.{clock_of, is_opening}
use Rattle.mega_rules.specs.Members.{is_cell, keep_of}

-- the greatest epoch that a cell granted to a node, and whether it is held
abbrev pub last_grant : List Met → ℕ → Option (Epoch × Bool)
last_grant [] node = None
last_grant (Grants other epoch ∷ before) node = if other == node then after_grant (last_grant before node) epoch else last_grant before node
last_grant (Lapses other epoch ∷ before) node = if other == node then after_lapse (last_grant before node) epoch else last_grant before node
last_grant (_ ∷ before) node = last_grant before node

-- a start tells the cell what its log has of each node
abbrev pub reopening : ℕ → Option (Epoch × Bool) → List Call
reopening node None = []
reopening node (Some last) = Reopens node last.0 last.1 ∷ []

abbrev pub reopenings : List Met → List Call
reopenings met = flat_map (λ node. reopening node (last_grant met node)) nodes

abbrev pub asked_in : Cluster → ℕ → ℕ → Message → List Call
asked_in c me now message =
    elim message.body [ Acquire cell epoch clock ↦ if cell == me && is_cell c me then Asks message.from epoch now (keep_of c) ∷ [] else [] | _ ↦ [] ]

-- what a start shows of a step that was cut before it
abbrev pub if_opening : List Met → Call → List Call
if_opening before call = if is_opening before then call ∷ [] else []

-- the calls of a node's cell in this start, the newest first
abbrev pub cell_calls : Cluster → ℕ → List Met → List Call
cell_calls c me [] = []
cell_calls c me (Starts start ∷ before) = reopenings before
cell_calls c me (Grants node epoch ∷ before) = if_opening before (Reopens node epoch true) ++ cell_calls c me before
cell_calls c me (Lapses node epoch ∷ before) = if_opening before (Reopens node epoch false) ++ cell_calls c me before
cell_calls c me (Ticks now ∷ before) = CellTicks now (keep_of c) ∷ cell_calls c me before
cell_calls c me (Takes message ∷ before) = asked_in c me (clock_of before) message ++ cell_calls c me before
cell_calls c me (_ ∷ before) = cell_calls c me before

-- the epoch that is held for a node
abbrev pub held_at : Cluster → ℕ → List Met → ℕ → Option Epoch
held_at c me met node = held_for (cell_calls c me met) node

-- a node that asks for an epoch: it is granted, renewed, or past
abbrev pub grant_note : ℕ → Epoch → Asked → List Met
grant_note node epoch Granted = Grants node epoch ∷ []
grant_note node epoch _ = []

abbrev pub lock_answer : ℕ → Epoch → ℕ → Asked → Body
lock_answer cell epoch clock (GreaterHeld greatest) = Past cell epoch greatest
lock_answer cell epoch clock (Over greatest) = Past cell epoch greatest
lock_answer cell epoch clock _ = GrantedBody cell epoch clock

abbrev pub asked_for : Cluster → ℕ → List Met → ℕ → Epoch → Asked
asked_for c me met node epoch = answer (lock_of (cell_calls c me met) node) epoch

-- a question whether a node holds its lock here
abbrev pub held_answer : OpId → ℕ → NodeId → Option Epoch → Body
held_answer op cell node None = Unheld op cell node
held_answer op cell node (Some epoch) = Held op cell node

-- the epochs that lapse at a tick, in order of node
abbrev pub lapse_note : ℕ → Option Epoch → List Met
lapse_note node None = []
lapse_note node (Some epoch) = Lapses node epoch ∷ []

abbrev pub lapses_at : Cluster → ℕ → List Met → ℕ → List Met
lapses_at c me met now = flat_map (λ node. lapse_note node (lapse_for (cell_calls c me met) now (keep_of c) node)) nodes
