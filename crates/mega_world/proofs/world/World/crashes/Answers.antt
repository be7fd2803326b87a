use Rattle.std.proofs.Common.{[], ◌∷◌, ◌++◌, refl}
use Rattle.mega_places.specs.of_promises.of_transcript.declared.item.Item.TheVariants.{Crash}
use Rattle.mega_world.proofs.Behind.{behind}
use Rattle.mega_world.proofs.Falling.{crashes_at}
use Rattle.mega_world.proofs.world.World.crashes.Goals as goal

pub returns-clause-state : goal.returns-clause-state
returns-clause-state c cluster h earlier now r =
    let old = c.args.self.now in
    crashes_at cluster h now c.args.node old (record old { places = c.take_down.new.places }) (earlier ++ c.args.tape.now.items) (earlier ++ c.push.new.self) r c.requires.least c.requires.most c.requires.up c.take_down.ensures refl refl refl
    (behind earlier c.args.tape.now.items (Crash c.args.node ∷ []) c.push.new.self c.in_ok-push.ensures.ok)
