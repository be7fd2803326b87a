use Rattle.std.proofs.Common.{◌∙◌, ◌++◌, ◌∷◌, [], List, ap, map, sym, append_assoc}
use Rattle.std.specs.Vec.Iter.{into_iter_items}
use Rattle.mega_base.specs.declared.names.GroupId.{GroupId}
use Rattle.mega_step_parts.specs.declared.applying.Before.{Before}
use Rattle.mega_step_parts.specs.Positions.{before_at}
use Rattle.mega_step_parts.proofs.applying.positions.Goals as goal

pub loop-group-preserved : goal.loop-group-preserved
loop-group-preserved g c = λ met stored keeps.
    let at = before_at met stored in
    let before = c.loop-group.before in
    let rest = map at (into_iter_items c.next.new.self) in
    ap (λ (all : List Before). all ++ rest) c.in_ok-push.ensures.ok
    ∙ (append_assoc before (c.before_at.result ∷ []) rest
    ∙ (ap (λ (one : Before). before ++ one ∷ rest) (c.before_at.ensures met stored keeps)
    ∙ (ap (λ (groups : List GroupId). before ++ map at groups) (sym c.in-Some.ensures.steps.0) ∙ c.loop-group.invariant met stored keeps)))
