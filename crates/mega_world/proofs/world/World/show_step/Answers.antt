use Rattle.std.proofs.Common.{[], ◌∷◌, ◌++◌, refl, subst, sym}
use Rattle.mega_places.specs.of_promises.of_transcript.declared.item.Item.TheVariants.{Crash}
use Rattle.mega_places.specs.of_promises.Items.{number}
use Rattle.mega_places.specs.declared.stepping.Stepped.{Stepped}
use Rattle.mega_world.specs.Showing.{ShowsStep}
use Rattle.mega_world.proofs.Behind.{behind}
use Rattle.mega_world.proofs.world.World.show_step.Goals as goal

pub returns-in_ok-show-in-Made-clause-shown : goal.returns-in_ok-show-in-Made-clause-shown
returns-in_ok-show-in-Made-clause-shown c cluster earlier =
    subst (λ (made : Stepped). ShowsStep cluster c.args.self.now c.show.new.self c.args.me made (earlier ++ c.args.tape.now.items) (earlier ++ c.show.new.tape.items)) (sym c.in-Made.is)
    (λ was ruled. c.in_ok-show-in-Made.ensures.shown cluster was ruled earlier)

pub returns-in_ok-push-in-Cut-clause-shown : goal.returns-in_ok-push-in-Cut-clause-shown
returns-in_ok-push-in-Cut-clause-shown c cluster earlier =
    subst (λ (made : Stepped). ShowsStep cluster c.args.self.now c.args.self.now c.args.me made (earlier ++ c.args.tape.now.items) (earlier ++ c.push.new.self)) (sym c.in-Cut.is)
    (record { world = refl; tape = behind earlier c.args.tape.now.items (Crash (number c.args.me) ∷ []) c.push.new.self c.in_ok-push-in-Cut.ensures.ok })
