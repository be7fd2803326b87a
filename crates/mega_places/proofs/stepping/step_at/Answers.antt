use Rattle.std.proofs.Common.{◌≡◌, ◌-◌, ◌∙◌, ap, refl, set, Err}
use Rattle.mega_durable.specs.of_core.of_step_parts.Events.{event_of}
use Rattle.mega_places.specs.declared.place.Place.TheVariants.{Up}
use Rattle.mega_places.proofs.Joining.{not_down}
use Rattle.mega_places.proofs.Outcomes.{stands_at}
use Rattle.mega_places.proofs.StepsMade.{found}
use Rattle.mega_places.proofs.stepping.step_at.Goals as goal

pub step-made-requires : goal.step-made-requires
step-made-requires g c =
    let k = c.requires.known in
    let me = c.args.me in
    let places = c.args.places.now.items in
    let i = c.from.result - 1 in
    let at = ap (λ n. n - 1) c.from.ensures in
    let there = found places i me c.index_mut.result.now at c.requires.least c.requires.most c.index_mut.ensures.value in
    let stands = stands_at k.cluster places k.now me i c.index_mut.result.now c.in-Up.member k.nodes at c.requires.least there c.in-Up.is in
    record { known = record { cluster = k.cluster; handlers = k.handlers; me = me; ruled = k.now.node me; is = stands.is; may = k.may; near = k.near } }

pub returns-in-Ok-clause-made : goal.returns-in-Ok-clause-made
returns-in-Ok-clause-made g c cluster h now all may =
    let me = c.args.me in
    let places = c.args.places.now.items in
    let i = c.from.result - 1 in
    let at = ap (λ n. n - 1) c.from.ensures in
    let there = found places i me c.index_mut.result.now at c.requires.least c.requires.most c.index_mut.ensures.value in
    let stands = stands_at cluster places now me i c.index_mut.result.now c.in-Up.member all at c.requires.least there c.in-Up.is in
    c.in-Ok.ensures.comes cluster h now (event_of c.args.event) places c.step-made.new.self all (all.members.up_are me ∙ c.requires.up) c.requires.most
    (ap (λ k. set places k (Up c.step-made.new.self)) at)
    (c.step-made.ensures.made cluster h me (now.node me) (now.log_fuse me) stands.is stands.settled.fused may)

pub unreachable-requires : goal.unreachable-requires
unreachable-requires g c =
    let me = c.args.me in
    let places = c.args.places.now.items in
    let i = c.from.result - 1 in
    let at = ap (λ n. n - 1) c.from.ensures in
    let there = found places i me c.index_mut.result.now at c.requires.least c.requires.most c.index_mut.ensures.value in
    not_down places me i c.index_mut.result.now c.in-Down.field-0 at c.requires.least there c.in-Down.is c.requires.up
