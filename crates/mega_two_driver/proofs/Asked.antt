-- A change has a request exactly until it has ended.
use Rattle.std.proofs.Common.{◌≡◌, ◌<◌, ℕ, Bool, true, false, nat_lt, List, [], length, get_or, slice_get, Option, is_none, is_some, option_map, refl, ap, arith}
use Rattle.std.proofs.lemmas.Bool.Decides.{nat_tests}
use Rattle.std.proofs.lemmas.Option.{slice_get-get_or}
use Rattle.mega_two_moves.specs.declared.phase.Phase.{Phase}
use Rattle.mega_two_moves.specs.declared.phase.Phase.TheVariants.{Begins, Prepares, Decides, Looks, Finishes, Checks, Recovers, Over}
use Rattle.mega_two_driver.specs.declared.plan.PartRequests.{PartRequests}
use Rattle.mega_two_driver.specs.declared.plan.Plan.{Plan}
use Rattle.mega_two_moves.specs.Moves.{ended_in, is_within}
use Rattle.mega_two_driver.specs.Driver.{asked_in, prepare_of, finish_of, look_of}

abbrev no_requests : PartRequests
no_requests = record { prepare = []; commit = []; abort = []; look = [] }

is_below : (i n : ℕ) → nat_lt i n ≡ true → i < n
is_below i n is = grind (arith, nat_tests)

is_there : {A : Type 0} (f : PartRequests → A) (parts : List PartRequests) (i : ℕ) → nat_lt i (length parts) ≡ true → is_none (option_map f (slice_get parts i)) ≡ false
is_there f parts i is = ap (λ o. is_none (option_map f o)) (slice_get-get_or parts i no_requests (is_below i (length parts) is))

pub until_ended : (plan : Plan) (phase : Phase) → is_within (length plan.parts) phase ≡ true → is_none (asked_in plan phase) ≡ is_some (ended_in phase)
until_ended plan Begins is = refl
until_ended plan (Prepares i) is = is_there prepare_of plan.parts i is
until_ended plan (Decides made) is = refl
until_ended plan (Looks made) is = refl
until_ended plan (Finishes made i) is = is_there (finish_of made) plan.parts i is
until_ended plan (Checks made i) is = is_there look_of plan.parts i is
until_ended plan Recovers is = refl
until_ended plan (Over ending) is = refl
