use Rattle.std.proofs.Common.{[], ◌∷◌, ◌++◌, refl}
use Rattle.mega_places.specs.of_voter.of_rules.Steps.{Tick}
use Rattle.mega_places.specs.of_promises.of_transcript.declared.item.Item.TheVariants.{Tick as TickItem}
use Rattle.mega_places.specs.of_promises.Items.{number}
use Rattle.mega_world.proofs.Behind.{behind}
use Rattle.mega_world.proofs.Due.{may_happen, tick_ready}
use Rattle.mega_world.proofs.Forming.{made_formed}
use Rattle.mega_world.proofs.Happening.{came_at, came_lined, is_there, ticked_own}
use Rattle.mega_world.proofs.world.World.ticks.Goals as goal

pub step_at-requires-clause-known : goal.step_at-requires-clause-known
step_at-requires-clause-known g c =
    let k = c.requires.known in
    let node = c.args.node in
    let there = is_there k.cluster c.args.self.now (k.earlier ++ c.args.tape.now.items) k.now node.0 k.at c.requires.least c.requires.most in
    let formed = made_formed k.cluster k.handlers k.now node.0 (Tick c.args.clock) k.at.served k.sound.formed k.sound.handlers there k.sound.asked in record {
      cluster = k.cluster;
      handlers = k.handlers;
      now = k.now;
      nodes = k.at.nodes;
      may = may_happen k.cluster k.handlers k.now node.0 (Tick c.args.clock) formed k.sound.own k.sound.means;
      near = tt;
    }

pub returns-clause-state : goal.returns-clause-state
returns-clause-state g c cluster h earlier now r sound =
    let old = c.args.self.now in
    let items = earlier ++ c.args.tape.now.items in
    let node = c.args.node in
    let there = is_there cluster old items now node.0 r c.requires.least c.requires.most in
    let formed = made_formed cluster h now node.0 (Tick c.args.clock) r.served sound.formed sound.handlers there sound.asked in
    let comes = c.in-Ok.ensures.made cluster h now r.nodes (may_happen cluster h now node.0 (Tick c.args.clock) formed sound.own sound.means) in
    let mid = record old { places = c.step_at.new.places } in
    came_at cluster h now node.0 (TickItem (number node.0) c.args.clock ∷ []) (Tick c.args.clock) old mid c.show_step.new.self items (earlier ++ c.push.new.self) (earlier ++ c.show_step.new.tape.items) c.in-Ok.made r (ticked_own cluster node.0 c.args.clock) comes
    (tick_ready now node.0 c.args.clock old mid items (earlier ++ c.push.new.self) r.mail (behind earlier c.args.tape.now.items (TickItem (number node.0) c.args.clock ∷ []) c.push.new.self c.in_ok-push.ensures.ok) refl refl refl)
    (c.in_ok-show_step.ensures.shown cluster earlier)

pub returns-clause-lines : goal.returns-clause-lines
returns-clause-lines g c cluster h earlier now r sound =
    let old = c.args.self.now in
    let items = c.args.tape.now.items in
    let node = c.args.node in
    let there = is_there cluster old (earlier ++ items) now node.0 r c.requires.least c.requires.most in
    let formed = made_formed cluster h now node.0 (Tick c.args.clock) r.served sound.formed sound.handlers there sound.asked in
    let comes = c.in-Ok.ensures.made cluster h now r.nodes (may_happen cluster h now node.0 (Tick c.args.clock) formed sound.own sound.means) in
    let mid = record old { places = c.step_at.new.places } in
    came_lined cluster h now node.0 (TickItem (number node.0) c.args.clock ∷ []) (Tick c.args.clock) old mid items c.push.new.self c.show_step.new.tape.items c.in-Ok.made (ticked_own cluster node.0 c.args.clock) formed comes
    (tick_ready now node.0 c.args.clock old mid items c.push.new.self r.mail c.in_ok-push.ensures.ok refl refl refl) c.in_ok-show_step.ensures.lines
