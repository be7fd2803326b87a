use Rattle.std.proofs.Common.{◌∙◌, ◌++◌, ◌∷◌, [], List, ap, sym, filter, append_assoc}
use Rattle.std.specs.Vec.Iter.{into_iter_items}
use Rattle.mega_base.specs.declared.names.GroupId.{GroupId}
use Rattle.mega_step_choices.specs.Behind.{is_behind}
use Rattle.mega_step_parts.proofs.Left.{filter_first}
use Rattle.mega_step_parts.proofs.touching.behind_among.Goals as goal

pub loop-group-preserved : goal.loop-group-preserved
loop-group-preserved g c = λ met stored keeps.
    let test = is_behind met stored in
    let found = c.loop-group.found in
    let rest = into_iter_items c.next.new.self in
    ap (λ (all : List GroupId). all ++ filter test rest) (c.in_ok-add_behind.ensures met stored keeps)
    ∙ (append_assoc found (filter test (c.in-Some.group ∷ [])) (filter test rest)
    ∙ (ap (λ (some : List GroupId). found ++ some) (filter_first test c.in-Some.group rest)
    ∙ (ap (λ (some : List GroupId). found ++ filter test some) (sym c.in-Some.ensures.steps.0)
    ∙ c.loop-group.invariant met stored keeps)))
