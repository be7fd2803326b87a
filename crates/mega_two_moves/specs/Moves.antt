-- How a change of so many parts goes on by what it is told.
use Rattle.std.specs.Prelude.{ℕ, ◌+◌, nat_lt, if◌then◌else◌, Bool, true, false, Option, Some, None}
use Rattle.mega_two_moves.specs.declared.phase.Ended.{Ended}
use Rattle.mega_two_moves.specs.declared.phase.Ended.TheVariants.{Committed, Aborted, Used, Open}
use Rattle.mega_two_moves.specs.declared.phase.Phase.{Phase}
use Rattle.mega_two_moves.specs.declared.phase.Phase.TheVariants.{Begins, Prepares, Decides, Looks, Finishes, Checks, Recovers, Over}
use Rattle.mega_two_moves.specs.declared.request_result.State.{State}
use Rattle.mega_two_moves.specs.declared.request_result.State.TheVariants.{Undecided, Made, Dropped}
use Rattle.mega_two_moves.specs.declared.request_result.RequestResult.{RequestResult}
use Rattle.mega_two_moves.specs.declared.request_result.RequestResult.TheVariants.{Done, Turned, Again, Lost, Refused, NoPlan, StateIs, Held, Free}

-- the parts from i on are prepared, and then the change is made
abbrev pub preparing : ℕ → ℕ → Phase
preparing count i = if nat_lt i count then Prepares i else Decides true

abbrev pub ending_of : Bool → Ended
ending_of true = Committed
ending_of false = Aborted

-- the parts from i on are finished
abbrev pub finishing : ℕ → Bool → ℕ → Phase
finishing count made i = if nat_lt i count then Finishes made i else Over (ending_of made)

-- a plan that is decided is finished; an undecided one is decided so
abbrev pub by_state : ℕ → Bool → State → Phase
by_state count made Undecided = Decides made
by_state count made Made = finishing count true 0
by_state count made Dropped = finishing count false 0

-- behind the plan: a name that was used before ends it
abbrev pub planned : ℕ → RequestResult → Phase
planned count Done = preparing count 0
planned count Turned = Over Used
planned count Again = Begins
planned count Lost = Over Open
planned count Refused = Over Open
planned count NoPlan = Begins
planned count (StateIs state) = Begins
planned count Held = Begins
planned count Free = Begins

-- behind a prepare: only where each was done is the change made
abbrev pub prepared : ℕ → ℕ → RequestResult → Phase
prepared count i Done = preparing count (i + 1)
prepared count i Turned = Decides false
prepared count i Again = Prepares i
prepared count i Lost = Decides false
prepared count i Refused = Over Open
prepared count i NoPlan = Prepares i
prepared count i (StateIs state) = Prepares i
prepared count i Held = Prepares i
prepared count i Free = Prepares i

-- behind a commit or an abort: where another may have decided, it looks
abbrev pub decided : ℕ → Bool → RequestResult → Phase
decided count made Done = finishing count made 0
decided count made Turned = Looks made
decided count made Again = Decides made
decided count made Lost = Looks made
decided count made Refused = Over Open
decided count made NoPlan = Decides made
decided count made (StateIs state) = Decides made
decided count made Held = Decides made
decided count made Free = Decides made

-- behind a look at the plan
abbrev pub looked : ℕ → Bool → Phase → RequestResult → Phase
looked count made same Done = same
looked count made same Turned = same
looked count made same Again = same
looked count made same Lost = same
looked count made same Refused = Over Open
looked count made same NoPlan = Over Open
looked count made same (StateIs state) = by_state count made state
looked count made same Held = same
looked count made same Free = same

-- behind a finish: where another may have finished the part, it looks
abbrev pub finished : ℕ → Bool → ℕ → RequestResult → Phase
finished count made i Done = finishing count made (i + 1)
finished count made i Turned = Checks made i
finished count made i Again = Finishes made i
finished count made i Lost = Checks made i
finished count made i Refused = Over Open
finished count made i NoPlan = Finishes made i
finished count made i (StateIs state) = Finishes made i
finished count made i Held = Finishes made i
finished count made i Free = Finishes made i

-- behind a look at a part's lock
abbrev pub checked : ℕ → Bool → ℕ → RequestResult → Phase
checked count made i Done = Checks made i
checked count made i Turned = Checks made i
checked count made i Again = Checks made i
checked count made i Lost = Checks made i
checked count made i Refused = Over Open
checked count made i NoPlan = Checks made i
checked count made i (StateIs state) = Checks made i
checked count made i Held = Finishes made i
checked count made i Free = finishing count made (i + 1)

abbrev pub moved : ℕ → Phase → RequestResult → Phase
moved count Begins told = planned count told
moved count (Prepares i) told = prepared count i told
moved count (Decides made) told = decided count made told
moved count (Looks made) told = looked count made (Looks made) told
moved count (Finishes made i) told = finished count made i told
moved count (Checks made i) told = checked count made i told
moved count Recovers told = looked count false Recovers told
moved count (Over ending) told = Over ending

abbrev pub ended_in : Phase → Option Ended
ended_in (Over ending) = Some ending
ended_in Begins = None
ended_in (Prepares i) = None
ended_in (Decides made) = None
ended_in (Looks made) = None
ended_in (Finishes made i) = None
ended_in (Checks made i) = None
ended_in Recovers = None

-- its part is one of the change
abbrev pub is_within : ℕ → Phase → Bool
is_within count (Prepares i) = nat_lt i count
is_within count (Finishes made i) = nat_lt i count
is_within count (Checks made i) = nat_lt i count
is_within count Begins = true
is_within count (Decides made) = true
is_within count (Looks made) = true
is_within count Recovers = true
is_within count (Over ending) = true
