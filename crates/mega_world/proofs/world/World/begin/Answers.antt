use Rattle.std.proofs.Common.{◌≡◌, ◌∙◌, OnOk, Ok, Err, Result, Some, List, ap, subst, sym}
use Rattle.mega_places.specs.declared.place.Place.{Place}
use Rattle.mega_places.specs.Members.{AreMembers}
use Rattle.mega_world.proofs.world.World.begin.Goals as goal

pub returns-in-Some-clause-refused : goal.returns-in-Some-clause-refused
returns-in-Some-clause-refused g c why is cluster items now r =
    let same : c.in-Some.why ≡ why = cc in
    sym (c.in-Some.ensures.value cluster now c.args.text (subst (λ (ps : List Place). AreMembers cluster ps now.node) (sym c.as_slice.ensures.value) r.nodes.members)) ∙ ap Some same

anyway : {T E : Type 0} (r : Result T E) (P : Type 0) → P → OnOk r P
anyway (Ok x) P p = p
anyway (Err e) P p = tt

pub returns-in-None-clause-happens : goal.returns-in-None-clause-happens
returns-in-None-clause-happens g c =
    anyway c.begins.result _ (λ cluster items now r. sym (c.in-None.ensures.value cluster now c.args.text (subst (λ (ps : List Place). AreMembers cluster ps now.node) (sym c.as_slice.ensures.value) r.nodes.members)))

pub begins-requires-clause-known : goal.begins-requires-clause-known
begins-requires-clause-known g c =
    let k = c.requires.known in
    record { cluster = k.cluster; handlers = k.handlers; earlier = k.earlier; now = k.now; at = k.at; sound = k.sound (sym (c.in-None.ensures.value k.cluster k.now c.args.text (subst (λ (ps : List Place). AreMembers k.cluster ps k.now.node) (sym c.as_slice.ensures.value) k.at.nodes.members))) }
