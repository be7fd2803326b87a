use Rattle.std.proofs.Common.{List, subst, sym}
use Rattle.mega_places.specs.declared.place.Place.{Place}
use Rattle.mega_places.specs.Members.{AreMembers}
use Rattle.mega_world.proofs.world.World.tick.Goals as goal

pub ticks-requires-clause-known : goal.ticks-requires-clause-known
ticks-requires-clause-known g c =
    let k = c.requires.known in
    record { cluster = k.cluster; handlers = k.handlers; earlier = k.earlier; now = k.now; at = k.at; sound = k.sound (sym (c.in-None.ensures.value k.cluster k.now (subst (λ (ps : List Place). AreMembers k.cluster ps k.now.node) (sym c.as_slice.ensures.value) k.at.nodes.members))) }
