-- A change that is driven, as a driver in the world of all groups.
use Rattle.std.specs.Prelude.{◌≡◌, ℕ, if◌then◌else◌, Bool, true, false, List, [], ◌∷◌, drop, length, slice_get, Option, Some, None, option_map}
use Rattle.mega_two_laws.specs.Parts.{Part}
use Rattle.mega_two_laws.specs.World.{Text, same, Plan, Request, Planning, Preparing, Deciding, Finishing, LookingAtPlan, LookingAtLock, Reply}
use Rattle.mega_two_laws.specs.World as world
use Rattle.mega_two_laws.specs.Driver.{Driver, Ending, parts_read}
use Rattle.mega_two_laws.specs.Driver as drivers
use Rattle.mega_two_driver.specs.of_moves.declared.phase.Ended.{Ended}
use Rattle.mega_two_driver.specs.of_moves.declared.phase.Ended.TheVariants.{Committed, Aborted, Used, Open}
use Rattle.mega_two_driver.specs.of_moves.declared.phase.Phase.{Phase}
use Rattle.mega_two_driver.specs.of_moves.declared.phase.Phase.TheVariants.{Begins, Prepares, Decides, Looks, Finishes, Checks, Recovers, Over}
use Rattle.mega_two_driver.specs.of_moves.declared.request_result.State.{State}
use Rattle.mega_two_driver.specs.of_moves.declared.request_result.State.TheVariants.{Undecided, Made, Dropped}
use Rattle.mega_two_driver.specs.of_moves.declared.request_result.RequestResult.{RequestResult}
use Rattle.mega_two_driver.specs.of_moves.declared.request_result.RequestResult.TheVariants.{Done, Turned, Again, Lost, Refused, NoPlan, StateIs, Held, Free}

abbrev pub ending_in : Ended → Ending
ending_in Committed = drivers.Committed
ending_in Aborted = drivers.Aborted
ending_in Used = drivers.Used
ending_in Open = drivers.Open

-- the parts from number i on are those that are left
abbrev pub phase_in : List Part → Phase → drivers.Phase
phase_in parts Begins = drivers.Begins
phase_in parts (Prepares i) = drivers.Prepares (drop i parts)
phase_in parts (Decides made) = drivers.Decides made
phase_in parts (Looks made) = drivers.Looks made
phase_in parts (Finishes made i) = drivers.Finishes made (drop i parts)
phase_in parts (Checks made i) = drivers.Checks made (drop i parts)
phase_in parts Recovers = drivers.Recovers
phase_in parts (Over ending) = drivers.Ended (ending_in ending)

abbrev pub driver_in : Text → List Part → Phase → Driver
driver_in name parts phase = record { name = name; parts = parts; phase = phase_in parts phase }

abbrev pub state_in : world.State → State
state_in world.Undecided = Undecided
state_in world.Made = Made
state_in world.Dropped = Dropped

-- what a reply of the world tells the change with this name
abbrev pub plan_in : Option Plan → RequestResult
plan_in None = NoPlan
plan_in (Some plan) = StateIs (state_in plan.state)

abbrev pub lock_in : Text → Option Text → RequestResult
lock_in name None = Free
lock_in name (Some holder) = if same holder name then Held else Free

abbrev pub told_in : Text → Reply → RequestResult
told_in name world.Done = Done
told_in name world.Turned = Turned
told_in name (world.PlanIs plan) = plan_in plan
told_in name (world.LockIs holder) = lock_in name holder
told_in name world.Again = Again
told_in name world.Lost = Lost
told_in name world.Refused = Refused
