use Rattle.std.proofs.Common.{List, subst, sym}
use Rattle.mega_places.specs.declared.place.Place.{Place}
use Rattle.mega_places.specs.Members.{AreMembers}
use Rattle.mega_world.proofs.world.World.start.Goals as goal

pub starts-requires-clause-known : goal.starts-requires-clause-known
starts-requires-clause-known c =
    let k = c.requires.known.1 in
    (c.requires.known.0, record { cluster = k.cluster; handlers = k.handlers; earlier = k.earlier; now = k.now; at = k.at; sound = k.sound (sym (c.in-None.ensures.value k.cluster k.now (subst (λ (ps : List Place). AreMembers k.cluster ps k.now.node) (sym c.as_slice.ensures.value) k.at.nodes.members))) })
