-- What a change was told, from where it began, the newest first.
use Rattle.std.specs.Prelude.{◌≡◌, ℕ, ◌==◌, ◌&&◌, ◌||◌, Bool, true, false, List, [], ◌∷◌}
use Rattle.mega_two_driver.specs.of_moves.declared.phase.Phase.{Phase}
use Rattle.mega_two_driver.specs.of_moves.declared.phase.Phase.TheVariants.{Begins, Prepares, Decides, Looks, Finishes, Checks, Recovers, Over}
use Rattle.mega_two_driver.specs.of_moves.declared.request_result.State.{State}
use Rattle.mega_two_driver.specs.of_moves.declared.request_result.State.TheVariants.{Undecided, Made, Dropped}
use Rattle.mega_two_driver.specs.of_moves.declared.request_result.RequestResult.{RequestResult}
use Rattle.mega_two_driver.specs.of_moves.declared.request_result.RequestResult.TheVariants.{Done, Turned, Again, Lost, Refused, NoPlan, StateIs, Held, Free}
use Rattle.mega_two_driver.specs.Moves.{moved}

-- where a change of so many parts is
abbrev pub run : ℕ → Phase → List RequestResult → Phase
run count from [] = from
run count from (told ∷ before) = moved count (run count from before) told

abbrev pub is_done : RequestResult → Bool
is_done Done = true
is_done Turned = false
is_done Again = false
is_done Lost = false
is_done Refused = false
is_done NoPlan = false
is_done (StateIs state) = false
is_done Held = false
is_done Free = false

abbrev pub is_made : State → Bool
is_made Made = true
is_made Undecided = false
is_made Dropped = false

abbrev pub stands_made : RequestResult → Bool
stands_made (StateIs state) = is_made state
stands_made Done = false
stands_made Turned = false
stands_made Again = false
stands_made Lost = false
stands_made Refused = false
stands_made NoPlan = false
stands_made Held = false
stands_made Free = false

abbrev pub is_free : RequestResult → Bool
is_free Free = true
is_free Done = false
is_free Turned = false
is_free Again = false
is_free Lost = false
is_free Refused = false
is_free NoPlan = false
is_free (StateIs state) = false
is_free Held = false

abbrev pub is_unprepared : RequestResult → Bool
is_unprepared Turned = true
is_unprepared Lost = true
is_unprepared Done = false
is_unprepared Again = false
is_unprepared Refused = false
is_unprepared NoPlan = false
is_unprepared (StateIs state) = false
is_unprepared Held = false
is_unprepared Free = false

-- the reply shows that the plan is made: its commit was done, or it stands so
abbrev pub shows_made : Phase → RequestResult → Bool
shows_made (Decides true) told = is_done told
shows_made (Decides false) told = false
shows_made (Looks made) told = stands_made told
shows_made Recovers told = stands_made told
shows_made Begins told = false
shows_made (Prepares i) told = false
shows_made (Finishes made i) told = false
shows_made (Checks made i) told = false
shows_made (Over ending) told = false

-- the part is finished: its finish was done, or its lock is free
abbrev pub closes : ℕ → Phase → RequestResult → Bool
closes part (Finishes made i) told = (i == part) && is_done told
closes part (Checks made i) told = (i == part) && is_free told
closes part Begins told = false
closes part (Prepares i) told = false
closes part (Decides made) told = false
closes part (Looks made) told = false
closes part Recovers told = false
closes part (Over ending) told = false

-- a part was not prepared, or none knows whether it was
abbrev pub gives_up : Phase → RequestResult → Bool
gives_up (Prepares i) told = is_unprepared told
gives_up Begins told = false
gives_up (Decides made) told = false
gives_up (Looks made) told = false
gives_up (Finishes made i) told = false
gives_up (Checks made i) told = false
gives_up Recovers told = false
gives_up (Over ending) told = false

-- some reply did so
abbrev pub was : (Phase → RequestResult → Bool) → ℕ → Phase → List RequestResult → Bool
was shows count from [] = false
was shows count from (told ∷ before) = shows (run count from before) told || was shows count from before
