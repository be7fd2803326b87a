use Rattle.std.proofs.Common.{◌-◌, ◌∙◌, List, ap, subst, sym}
use Rattle.std.specs.List.{All}
use Rattle.std.proofs.lemmas.List.Elements.{All-push}
use Rattle.mega_places.specs.of_promises.of_transcript.declared.item.Item.TheVariants.{Cut}
use Rattle.mega_places.specs.of_promises.of_transcript.Lines.{HasLine}
use Rattle.mega_places.specs.declared.place.Place.{Place}
use Rattle.mega_places.specs.Members.{is_up_at}
use Rattle.mega_world.proofs.Emptying.{drained_at, drained_cut, next_sound, none_left, reaches_next}
use Rattle.mega_places.proofs.Finding.{next_happens}
use Rattle.mega_world.proofs.world.World.drain.Goals as goal

pub returns-in-None-clause-state : goal.returns-in-None-clause-state
returns-in-None-clause-state g c cluster h earlier now r sound =
    let reached = c.loop-turn.invariant.0 cluster h earlier now r sound in
    drained_at cluster h now c.args.most (c.args.most - c.loop-turn._turn) c.loop-turn.self earlier c.args.tape.now.items c.loop-turn.tape.items reached
    (sym (c.in-None.ensures reached.mid reached.at.mail (λ me. reached.at.nodes.members.up_are me ∙ ap (λ (ps : List Place). is_up_at ps me) (sym c.as_slice.ensures.value))))

pub returns-in-None-clause-lines : goal.returns-in-None-clause-lines
returns-in-None-clause-lines g c cluster h earlier now r sound lined = (c.loop-turn.invariant.0 cluster h earlier now r sound).lines lined

pub hand-requires : goal.hand-requires
hand-requires g c =
    let k = c.requires.known in
    let reached = c.loop-turn.invariant.0 k.cluster k.handlers k.earlier k.now k.at k.sound in
    let is = sym (c.in-Some.ensures reached.mid reached.at.mail (λ me. reached.at.nodes.members.up_are me ∙ ap (λ (ps : List Place). is_up_at ps me) (sym c.as_slice.ensures.value))) in record {
      known = record {
        cluster = k.cluster;
        handlers = k.handlers;
        earlier = k.earlier;
        now = reached.mid;
        at = reached.at;
        sound = next_sound k.cluster k.handlers k.now c.args.most c.loop-turn._turn c.in-Some.number c.loop-turn.self k.earlier c.args.tape.now.items c.loop-turn.tape.items reached c.loop-turn-test.true c.loop-turn.invariant.1 k.sound is;
        allowed = next_happens k.cluster c.loop-turn.self.mail reached.mid c.in-Some.number reached.at.mail is;
      };
    }

pub loop-turn-preserved : goal.loop-turn-preserved
loop-turn-preserved g c = (
  λ cluster h earlier now r sound.
      let most = c.args.most in
      let turn = c.loop-turn._turn in
      let reached = c.loop-turn.invariant.0 cluster h earlier now r sound in
      let is = sym (c.in-Some.ensures reached.mid reached.at.mail (λ me. reached.at.nodes.members.up_are me ∙ ap (λ (ps : List Place). is_up_at ps me) (sym c.as_slice.ensures.value))) in
      let next = next_sound cluster h now most turn c.in-Some.number c.loop-turn.self earlier c.args.tape.now.items c.loop-turn.tape.items reached c.loop-turn-test.true c.loop-turn.invariant.1 sound is in
      reaches_next cluster h now most turn c.in-Some.number c.loop-turn.self c.hand.new.self earlier c.args.tape.now.items c.loop-turn.tape.items c.hand.new.tape.items reached c.loop-turn-test.true is
      (c.in-Ok.ensures.state cluster h earlier reached.mid reached.at next) (c.in-Ok.ensures.lines cluster h earlier reached.mid reached.at next),
  c.in-Ok.ensures.handlers ∙ c.loop-turn.invariant.1,
)

pub returns-in_ok-push-in-Some-next_delivery-clause-state : goal.returns-in_ok-push-in-Some-next_delivery-clause-state
returns-in_ok-push-in-Some-next_delivery-clause-state g c cluster h earlier now r sound =
    let most = c.args.most in
    let turn = c.loop-turn._turn in
    let reached = c.loop-turn.invariant.0 cluster h earlier now r sound in
    let is = sym (c.in-Some-next_delivery.ensures reached.mid reached.at.mail (λ me. reached.at.nodes.members.up_are me ∙ ap (λ (ps : List Place). is_up_at ps me) (sym c.as_slice-2.ensures.value))) in
    drained_cut cluster h now most (most - turn) c.in-Some-next_delivery._number c.loop-turn.self earlier c.args.tape.now.items c.loop-turn.tape.items c.push.new.self reached (none_left most turn c.loop-turn-test.false) is
    c.in_ok-push-in-Some-next_delivery.ensures.ok

pub returns-in_ok-push-in-Some-next_delivery-clause-lines : goal.returns-in_ok-push-in-Some-next_delivery-clause-lines
returns-in_ok-push-in-Some-next_delivery-clause-lines g c cluster h earlier now r sound lined =
    subst (All HasLine) (sym c.in_ok-push-in-Some-next_delivery.ensures.ok) (All-push HasLine c.loop-turn.tape.items Cut ((c.loop-turn.invariant.0 cluster h earlier now r sound).lines lined) tt)

pub returns-in-None-next_delivery-clause-state : goal.returns-in-None-next_delivery-clause-state
returns-in-None-next_delivery-clause-state g c cluster h earlier now r sound =
    let reached = c.loop-turn.invariant.0 cluster h earlier now r sound in
    drained_at cluster h now c.args.most (c.args.most - c.loop-turn._turn) c.loop-turn.self earlier c.args.tape.now.items c.loop-turn.tape.items reached
    (sym (c.in-None-next_delivery.ensures reached.mid reached.at.mail (λ me. reached.at.nodes.members.up_are me ∙ ap (λ (ps : List Place). is_up_at ps me) (sym c.as_slice-2.ensures.value))))

pub returns-in-None-next_delivery-clause-lines : goal.returns-in-None-next_delivery-clause-lines
returns-in-None-next_delivery-clause-lines g c cluster h earlier now r sound lined = (c.loop-turn.invariant.0 cluster h earlier now r sound).lines lined

pub returns-in-Err-clause-handlers : goal.returns-in-Err-clause-handlers
returns-in-Err-clause-handlers g c = c.in-Err.ensures.handlers ∙ c.loop-turn.invariant.1
