-- What the coordinator of a full node was told in this start, in the words of its rule, and what it does at a tick (CIDR 2011, coordinators).
use Rattle.std.specs.Prelude.{ℕ, ◌+◌, ◌-◌, ◌&&◌, Bool, false, if◌then◌else◌, nat_le, List, [], ◌∷◌, ◌++◌, map, filter, slice_index_or, Option, Some, None, is_some}
use Rattle.mega_base.specs.declared.names.Epoch.{Epoch}
use Rattle.mega_base.specs.declared.names.GroupId.{GroupId}
use Rattle.mega_cluster.specs.declared.cluster.Cluster.{Cluster}
use Rattle.mega_read.specs.of_wire.declared.message.Message.{Message}
use Rattle.mega_read.specs.of_wire.declared.message.Body.{Body}
use Rattle.mega_read.specs.of_wire.declared.message.Body.TheVariants.{Acquire, Granted, Invalidate, Past}
use Rattle.mega_coordinator.specs.declared.answers.Counted.{Counted}
use Rattle.mega_coordinator.specs.declared.answers.Counted.TheVariants.{No, Yes, Serving}
use Rattle.mega_coordinator.specs.declared.answers.NotValid.{NotValid}
use Rattle.mega_coordinator.specs.declared.answers.Ticked.{Ticked}
use Rattle.mega_coordinator.specs.Lease.{counted_by, granted_answer}
use Rattle.mega_coordinator.specs.History.{Call, Ticks as CoordinatorTicks, Grants as Grant, Passes, Invalidates as Invalid, Validates as Valid, counted_cells, epoch_after, is_valid, lease_of, refused, serving, ticked}
use Rattle.mega_rules.specs.Met.{Met, Starts, Ticks, Takes, Counts, Forgets, Serves, Loses, Validates, Invalidates}
use Rattle.mega_rules.specs.Clock.{clock_of, does_again, start_of, ticks_of}
use Rattle.mega_rules.specs.Members.{cells, is_full}

-- a message tells a coordinator of a grant, of an epoch that is past, or of an invalidation
abbrev pub told_by : Cluster → ℕ → Body → List Call
told_by c now (Granted cell epoch clock) = if nat_le cell c.cells then Grant cell epoch (clock + c.lease) now ∷ [] else []
told_by c now (Past cell epoch greatest) = if nat_le cell c.cells then Passes epoch ∷ [] else []
told_by c now (Invalidate op group position) = Invalid group position.0 ∷ []
told_by c now _ = []

-- a validate that is shown was lawful: it was of the epoch that served
abbrev pub validated : GroupId → ℕ → Option Epoch → List Call
validated group position None = []
validated group position (Some epoch) = Valid group position epoch ∷ []

-- the calls of a node's coordinator in this start, the newest first
abbrev pub coordinator_calls : Cluster → List Met → List Call
coordinator_calls c [] = []
coordinator_calls c (Starts start ∷ before) = []
coordinator_calls c (Ticks now ∷ before) = CoordinatorTicks now ∷ coordinator_calls c before
coordinator_calls c (Takes message ∷ before) = told_by c (clock_of before) message.body ++ coordinator_calls c before
coordinator_calls c (Validates group position ∷ before) =
    validated group position (serving (start_of before) c.cells (coordinator_calls c before)) ++ coordinator_calls c before
coordinator_calls c (_ ∷ before) = coordinator_calls c before

-- the epoch that serves
abbrev pub serves_at : Cluster → List Met → Option Epoch
serves_at c met = serving (start_of met) c.cells (coordinator_calls c met)

-- a group is valid
abbrev pub valid_at : Cluster → List Met → GroupId → Bool
valid_at c met group = is_valid (start_of met) c.cells (coordinator_calls c met) group

-- why a validate is refused
abbrev pub refused_at : Cluster → List Met → GroupId → ℕ → Epoch → Option NotValid
refused_at c met group position noted = refused (start_of met) c.cells (coordinator_calls c met) group position noted

-- a cell that is counted first is shown, and then that the epoch serves
abbrev pub counts_notes : ℕ → Epoch → Bool → Counted → List Met
counts_notes cell epoch was_counted No = []
counts_notes cell epoch was_counted Yes = if was_counted then [] else Counts cell epoch ∷ []
counts_notes cell epoch was_counted Serving = (if was_counted then [] else Counts cell epoch ∷ []) ++ Serves epoch ∷ []

abbrev pub grant_notes : Cluster → List Met → ℕ → Epoch → ℕ → List Met
grant_notes c met cell epoch clock =
    counts_notes cell epoch (is_some (counted_by (lease_of (start_of met) c.cells (coordinator_calls c met)) cell))
    (granted_answer (start_of met) c.cells (lease_of (start_of met) c.cells (coordinator_calls c met)) cell epoch (clock + c.lease) (clock_of met))

-- at a tick: the cells that are forgotten, in order, and the serving epoch that is lost
abbrev pub is_cell_in : List Bool → ℕ → Bool
is_cell_in marks cell = slice_index_or marks (cell - 1) false

abbrev pub forget_notes : Option Epoch → List ℕ → List Met
forget_notes None forgotten = []
forget_notes (Some epoch) forgotten = map (λ cell. Forgets cell epoch) forgotten

abbrev pub lost_note : Option Epoch → List Met
lost_note None = []
lost_note (Some epoch) = Loses epoch ∷ []

abbrev pub tick_told : Cluster → List Met → ℕ → Ticked
tick_told c met now = ticked (start_of met) c.cells (coordinator_calls c met) now

abbrev pub tick_notes : Cluster → List Met → ℕ → List Met
tick_notes c met now =
    forget_notes (epoch_after (start_of met) c.cells (coordinator_calls c met)) (filter (is_cell_in (tick_told c met now).forgot) (cells c))
    ++ lost_note (tick_told c met now).lost

-- after the forgetting, the present epoch is asked for again where that is due: from the counted cells where it serves, else from all
abbrev pub acquire_to : ℕ → Epoch → ℕ → ℕ → Message
acquire_to me epoch now cell = record { from = me; to = cell; body = Acquire cell epoch now }

abbrev pub asked_cells : Cluster → List Bool → Option Epoch → List ℕ
asked_cells c counted None = cells c
asked_cells c counted (Some epoch) = filter (is_cell_in counted) (cells c)

abbrev pub acquires : Cluster → ℕ → List Call → ℕ → ℕ → Option Epoch → List Message
acquires c me calls start now None = []
acquires c me calls start now (Some epoch) =
    map (acquire_to me epoch now) (asked_cells c (counted_cells start c.cells calls) (serving start c.cells calls))

abbrev pub acquires_at : Cluster → ℕ → List Met → ℕ → List Message
acquires_at c me met now =
    if is_full c me && does_again c.retry (ticks_of met) now
    then acquires c me (CoordinatorTicks now ∷ coordinator_calls c met) (start_of met) now (epoch_after (start_of met) c.cells (CoordinatorTicks now ∷ coordinator_calls c met))
    else []
