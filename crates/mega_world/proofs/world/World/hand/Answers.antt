use Rattle.std.proofs.Common.{◌≡◌, ◌∷◌, ◌++◌, [], ◌∙◌, ◌≤◌, Err, List, ap, length, refl, subst, sym}
use Rattle.mega_places.specs.of_voter.of_rules.Steps.{Take}
use Rattle.mega_places.specs.of_promises.of_transcript.declared.item.Item.TheVariants.{Taken}
use Rattle.mega_places.specs.declared.place.Place.{Place}
use Rattle.mega_places.specs.Members.{is_up_at}
use Rattle.mega_world.proofs.Behind.{behind}
use Rattle.mega_world.proofs.Due.{may_happen, take_owns}
use Rattle.mega_world.proofs.Fates.{handed_is}
use Rattle.mega_world.proofs.Forming.{made_formed}
use Rattle.mega_world.proofs.Happening.{IsReady, came_at, came_lined, delivery_built, is_there, taken_own}
use Rattle.mega_world.proofs.world.World.hand.Goals as goal

pub step_at-requires-clause-known : goal.step_at-requires-clause-known
step_at-requires-clause-known g c =
    let k = c.requires.known in
    let message = c.in-Some.message.now in
    let number = c.args.number in
    let is = c.in-Some.ensures.found k.now k.at.mail in
    let there = is_there k.cluster c.args.self.now (k.earlier ++ c.args.tape.now.items) k.now message.to k.at c.in-Some.ensures.least (subst (λ (ps : List Place). message.to ≤ length ps) c.as_slice.ensures.value c.in-Some.ensures.most) in
    let formed = made_formed k.cluster k.handlers k.now message.to (Take message) k.at.served k.sound.formed k.sound.handlers there (k.sound.formed.messages number message is) in record {
      cluster = k.cluster;
      handlers = k.handlers;
      now = k.now;
      nodes = k.at.nodes;
      may = may_happen k.cluster k.handlers k.now message.to (Take message) formed (take_owns k.cluster k.handlers k.now number message k.sound is) k.sound.means;
      near = delivery_built k.cluster k.now number message k.at.served k.sound.formed is;
    }

pub returns-clause-state : goal.returns-clause-state
returns-clause-state g c cluster h earlier now r sound =
    let message = c.in-Some.message.now in
    let number = c.args.number in
    let old = c.args.self.now in
    let items = earlier ++ c.args.tape.now.items in
    let is = c.in-Some.ensures.found now r.mail in
    let there = is_there cluster old items now message.to r c.in-Some.ensures.least (subst (λ (ps : List Place). message.to ≤ length ps) c.as_slice.ensures.value c.in-Some.ensures.most) in
    let formed = made_formed cluster h now message.to (Take message) r.served sound.formed sound.handlers there (sound.formed.messages number message is) in
    let comes = c.in-Ok.ensures.made cluster h now r.nodes (may_happen cluster h now message.to (Take message) formed (take_owns cluster h now number message sound is) sound.means) in
    let mid = record old { places = c.step_at.new.places; mail = c.take.new.self } in
    let ready : IsReady now (Taken number ∷ []) old mid items (earlier ++ c.push.new.self) = record {
      added = behind earlier c.args.tape.now.items (Taken number ∷ []) c.push.new.self c.in_ok-push.ensures.ok;
      cluster = refl;
      carries = c.take.ensures now.tape r.mail (c.in-Some.ensures.sent now r.mail);
      safety = refl;
    } in
    handed_is cluster h now number message c.show_step.new.self (earlier ++ c.show_step.new.tape.items) is
    (came_at cluster h now message.to (Taken number ∷ []) (Take message) old mid c.show_step.new.self items (earlier ++ c.push.new.self) (earlier ++ c.show_step.new.tape.items) c.in-Ok.made r (taken_own cluster number) comes ready (c.in_ok-show_step.ensures.shown cluster earlier))

pub returns-clause-lines : goal.returns-clause-lines
returns-clause-lines g c cluster h earlier now r sound =
    let message = c.in-Some.message.now in
    let number = c.args.number in
    let old = c.args.self.now in
    let items = c.args.tape.now.items in
    let is = c.in-Some.ensures.found now r.mail in
    let there = is_there cluster old (earlier ++ items) now message.to r c.in-Some.ensures.least (subst (λ (ps : List Place). message.to ≤ length ps) c.as_slice.ensures.value c.in-Some.ensures.most) in
    let formed = made_formed cluster h now message.to (Take message) r.served sound.formed sound.handlers there (sound.formed.messages number message is) in
    let comes = c.in-Ok.ensures.made cluster h now r.nodes (may_happen cluster h now message.to (Take message) formed (take_owns cluster h now number message sound is) sound.means) in
    let mid = record old { places = c.step_at.new.places; mail = c.take.new.self } in
    let ready : IsReady now (Taken number ∷ []) old mid items c.push.new.self = record {
      added = c.in_ok-push.ensures.ok;
      cluster = refl;
      carries = c.take.ensures now.tape r.mail (c.in-Some.ensures.sent now r.mail);
      safety = refl;
    } in
    came_lined cluster h now message.to (Taken number ∷ []) (Take message) old mid items c.push.new.self c.show_step.new.tape.items c.in-Ok.made (taken_own cluster number) formed comes ready c.in_ok-show_step.ensures.lines

pub unreachable-requires : goal.unreachable-requires
unreachable-requires g c =
    let k = c.requires.known in
    c.in-None.ensures.none k.cluster k.now k.at.mail (λ me. k.at.nodes.members.up_are me ∙ ap (λ (ps : List Place). is_up_at ps me) (sym c.as_slice.ensures.value)) k.allowed
