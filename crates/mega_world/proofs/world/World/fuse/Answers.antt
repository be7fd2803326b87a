use Rattle.std.proofs.Common.{◌≡◌, ◌∙◌, List, Some, ap, subst, sym}
use Rattle.mega_places.specs.declared.place.Place.{Place}
use Rattle.mega_places.specs.Members.{AreMembers}
use Rattle.mega_world.proofs.world.World.fuse.Goals as goal

pub returns-in-Some-clause-refused : goal.returns-in-Some-clause-refused
returns-in-Some-clause-refused c why is cluster items now r =
    let same : c.in-Some.why ≡ why = cc in
    sym (c.in-Some.ensures.value cluster now c.args.calls c.args.image c.args.device (subst (λ (ps : List Place). AreMembers cluster ps now.node) (sym c.as_slice.ensures.value) r.nodes.members)) ∙ ap Some same
