use Rattle.std.proofs.Common.{[], ◌∷◌, ◌++◌, refl}
use Rattle.mega_places.specs.of_promises.of_transcript.declared.item.Item.TheVariants.{Begin as BeginItem}
use Rattle.mega_places.specs.of_voter.of_rules.Met.{Begins}
use Rattle.mega_places.specs.of_voter.of_rules.Steps.{Begin, op_of}
use Rattle.mega_places.specs.of_promises.Items.{shown}
use Rattle.mega_places.specs.of_promises.Runs.{setting}
use Rattle.mega_world.proofs.Asked.{asked_built}
use Rattle.mega_world.proofs.Behind.{behind}
use Rattle.mega_world.proofs.Due.{begin_ready, may_happen}
use Rattle.mega_world.proofs.Forming.{made_formed}
use Rattle.mega_world.proofs.Happening.{begun_own, came_at, came_lined, is_there}
use Rattle.mega_world.proofs.world.World.begins.Goals as goal

pub begin_at-requires-clause-known : goal.begin_at-requires-clause-known
begin_at-requires-clause-known g c =
    let k = c.requires.known in
    let node = c.args.node in
    let there = is_there k.cluster c.args.self.now (k.earlier ++ c.args.tape.now.items) k.now node.0 k.at c.requires.least c.requires.most in
    let formed = made_formed k.cluster k.handlers k.now node.0 (Begin c.args.request c.args.text) k.at.served k.sound.formed k.sound.handlers there k.sound.asked in record {
      cluster = k.cluster;
      handlers = k.handlers;
      now = k.now;
      nodes = k.at.nodes;
      may = may_happen k.cluster k.handlers k.now node.0 (Begin c.args.request c.args.text) formed k.sound.own k.sound.means;
      near = asked_built c.args.request k.sound.asked;
    }

pub returns-clause-state : goal.returns-clause-state
returns-clause-state g c cluster h earlier now r sound =
    let old = c.args.self.now in
    let items = earlier ++ c.args.tape.now.items in
    let node = c.args.node in
    let text = c.args.text in
    let there = is_there cluster old items now node.0 r c.requires.least c.requires.most in
    let formed = made_formed cluster h now node.0 (Begin c.args.request text) r.served sound.formed sound.handlers there sound.asked in
    let comes = c.in-Ok.ensures.made cluster h now r.nodes (may_happen cluster h now node.0 (Begin c.args.request text) formed sound.own sound.means) in
    let mid = record old { places = c.begin_at.new.places } in
    came_at cluster h now node.0 (shown node.0 (Begins (op_of (setting cluster h node.0) (now.node node.0).met) text)) (Begin c.args.request text) old mid c.show_step.new.self items (earlier ++ c.push.new.self) (earlier ++ c.show_step.new.tape.items) c.in-Ok.begun.1 r
    (begun_own cluster (setting cluster h node.0) (now.node node.0) node.0 text) comes
    (begin_ready cluster h now node text c.in-Ok.begun.0 old mid items (earlier ++ c.push.new.self) r.mail (c.in-Ok.ensures.id cluster h now r.nodes)
    (behind earlier c.args.tape.now.items (BeginItem c.in-Ok.begun.0 text ∷ []) c.push.new.self c.in_ok-push.ensures.ok) refl refl refl) (c.in_ok-show_step.ensures.shown cluster earlier)

pub returns-clause-lines : goal.returns-clause-lines
returns-clause-lines g c cluster h earlier now r sound =
    let old = c.args.self.now in
    let items = c.args.tape.now.items in
    let node = c.args.node in
    let text = c.args.text in
    let there = is_there cluster old (earlier ++ items) now node.0 r c.requires.least c.requires.most in
    let formed = made_formed cluster h now node.0 (Begin c.args.request text) r.served sound.formed sound.handlers there sound.asked in
    let comes = c.in-Ok.ensures.made cluster h now r.nodes (may_happen cluster h now node.0 (Begin c.args.request text) formed sound.own sound.means) in
    let mid = record old { places = c.begin_at.new.places } in
    came_lined cluster h now node.0 (shown node.0 (Begins (op_of (setting cluster h node.0) (now.node node.0).met) text)) (Begin c.args.request text) old mid items c.push.new.self c.show_step.new.tape.items c.in-Ok.begun.1
    (begun_own cluster (setting cluster h node.0) (now.node node.0) node.0 text) formed comes
    (begin_ready cluster h now node text c.in-Ok.begun.0 old mid items c.push.new.self r.mail (c.in-Ok.ensures.id cluster h now r.nodes) c.in_ok-push.ensures.ok refl refl refl) c.in_ok-show_step.ensures.lines
