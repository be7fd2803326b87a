-- A change keeps its name, whatever it takes.
use Rattle.std.proofs.Common.{◌≡◌, ℕ, Bool, true, false, List, length, Option, Some, None, if◌then◌else◌, refl}
use Rattle.std.specs.Result.{result_ok}
use Rattle.mega_syntax.specs.Names.{same}
use Rattle.mega_schema.proofs.Naming.{same_is}
use Rattle.mega_two_moves.specs.declared.phase.Ended.TheVariants.{Open}
use Rattle.mega_two_moves.specs.declared.phase.Phase.TheVariants.{Over}
use Rattle.mega_two_driver.specs.declared.plan.Plan.{Plan}
use Rattle.mega_two_moves.specs.declared.request_result.State.{State}
use Rattle.mega_two_moves.specs.declared.request_result.RequestResult.{RequestResult}
use Rattle.mega_two_moves.specs.declared.request_result.RequestResult.TheVariants.{Done, Turned, Again, Lost, Refused, NoPlan, StateIs, Held, Free}
use Rattle.mega_two_driver.specs.declared.two.Two.{Two}
use Rattle.mega_two_moves.specs.Moves.{by_state}
use Rattle.mega_two_driver.specs.Rows.{plan_told, plan_line}
use Rattle.mega_two_driver.specs.Begins.{plan_of}
use Rattle.mega_two_driver.specs.Driver.{two_in, moved_to, stepped, learned, read_plan, is_recovering, told_in, taken, lost}

learns : (two : Two) (state : State) (plan : Option Plan) → (learned two state plan).plan.name ≡ two.plan.name
learns two state None = refl
learns two state (Some plan) = by (same plan.name two.plan.name) refl
  where
    by : (b : Bool) → same plan.name two.plan.name ≡ b → (if b then two_in two.schema (by_state (length plan.parts) false state) plan else moved_to two (Over Open)).plan.name ≡ two.plan.name
    by true is = same_is plan.name two.plan.name is
    by false is = refl

reads : (two : Two) (reply : List ℕ) (told : RequestResult) → (read_plan two reply told).plan.name ≡ two.plan.name
reads two reply Done = refl
reads two reply Turned = refl
reads two reply Again = refl
reads two reply Lost = refl
reads two reply Refused = refl
reads two reply NoPlan = refl
reads two reply (StateIs state) = learns two state (result_ok (plan_of two.schema (plan_line reply)))
reads two reply Held = refl
reads two reply Free = refl

pub takes_name : (two : Two) (reply : List ℕ) → (taken two reply).plan.name ≡ two.plan.name
unfolding taken
takes_name two reply = by (is_recovering two.phase)
  where
    by : (b : Bool) → (if b then read_plan two reply (plan_told reply) else stepped two (told_in two.plan.name two.phase reply)).plan.name ≡ two.plan.name
    by true = reads two reply (plan_told reply)
    by false = refl

pub loses_name : (two : Two) → (lost two).plan.name ≡ two.plan.name
unfolding lost
loses_name two = refl
