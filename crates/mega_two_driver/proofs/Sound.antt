-- A change stays at one of its parts, whatever it takes.
use Rattle.std.proofs.Common.{◌≡◌, ℕ, Bool, true, false, List, length, Option, Some, None, if◌then◌else◌, refl}
use Rattle.std.specs.Result.{result_ok}
use Rattle.mega_syntax.specs.Names.{same}
use Rattle.mega_two_moves.specs.declared.phase.Ended.TheVariants.{Open}
use Rattle.mega_two_moves.specs.declared.phase.Phase.TheVariants.{Over}
use Rattle.mega_two_driver.specs.declared.plan.Plan.{Plan}
use Rattle.mega_two_moves.specs.declared.request_result.State.{State}
use Rattle.mega_two_moves.specs.declared.request_result.RequestResult.{RequestResult}
use Rattle.mega_two_moves.specs.declared.request_result.RequestResult.TheVariants.{Done, Turned, Again, Lost, Refused, NoPlan, StateIs, Held, Free}
use Rattle.mega_two_driver.specs.declared.two.Two.{Two}
use Rattle.mega_two_moves.specs.Moves.{moved, by_state}
use Rattle.mega_two_driver.specs.Rows.{plan_told, plan_line}
use Rattle.mega_two_driver.specs.Begins.{plan_of}
use Rattle.mega_two_driver.specs.Driver.{IsSound, two_in, moved_to, stepped, learned, read_plan, is_recovering, told_in, taken, lost}
use Rattle.mega_two_driver.proofs.Within.{stands, stays_within}

steps : (two : Two) (told : RequestResult) → IsSound two → IsSound (stepped two told)
steps two told sound = stays_within (length two.plan.parts) two.phase told sound

learns : (two : Two) (state : State) (plan : Option Plan) → IsSound (learned two state plan)
learns two state None = refl
learns two state (Some plan) = by (same plan.name two.plan.name)
  where
    by : (b : Bool) → IsSound (if b then two_in two.schema (by_state (length plan.parts) false state) plan else moved_to two (Over Open))
    by true = stands (length plan.parts) false state
    by false = refl

reads : (two : Two) (reply : List ℕ) (told : RequestResult) → IsSound two → IsSound (read_plan two reply told)
reads two reply Done sound = steps two Done sound
reads two reply Turned sound = steps two Turned sound
reads two reply Again sound = steps two Again sound
reads two reply Lost sound = steps two Lost sound
reads two reply Refused sound = steps two Refused sound
reads two reply NoPlan sound = steps two NoPlan sound
reads two reply (StateIs state) sound = learns two state (result_ok (plan_of two.schema (plan_line reply)))
reads two reply Held sound = steps two Held sound
reads two reply Free sound = steps two Free sound

pub takes : (two : Two) (reply : List ℕ) → IsSound two → IsSound (taken two reply)
unfolding taken
takes two reply sound = by (is_recovering two.phase)
  where
    by : (b : Bool) → IsSound (if b then read_plan two reply (plan_told reply) else stepped two (told_in two.plan.name two.phase reply))
    by true = reads two reply (plan_told reply) sound
    by false = steps two (told_in two.plan.name two.phase reply) sound

pub loses : (two : Two) → IsSound two → IsSound (lost two)
unfolding lost
loses two sound = steps two Lost sound
