use Rattle.std.proofs.Common.{◌≡◌, ◌∙◌, ◌∷◌, ◌+◌, List, ap, sym, drop, find, flat_map}
use Rattle.std.specs.Prelude.{is_some}
use Rattle.std.proofs.lemmas.List.{drop_more}
use Rattle.mega_base.specs.declared.names.GroupId.{GroupId}
use Rattle.mega_queues.specs.Boxes.{sent_at}
use Rattle.mega_queues.specs.Picks.{can_enter}
use Rattle.mega_queues.proofs.Picking.{here, not_here}
use Rattle.mega_queues.proofs.picks.next_to_enter.Goals as goal

pub returns-in-Some : goal.returns-in-Some
returns-in-Some c =
    let p = can_enter c.args.op c.args.boxes.now in
    let f = sent_at c.args.outboxes.now in
    let groups = c.args.groups.now in
    let at = c.loop-group.group-index in
    let group = c.group-item.result in
    let first : drop at groups ≡ group ∷ drop (at + 1) groups = drop_more groups at group c.loop-group-test.true ∙ ap (λ (one : GroupId). one ∷ drop (at + 1) groups) (sym c.group-item.is) in
    let before = ap (λ (left : List GroupId). find p (flat_map f left)) (sym first) ∙ c.loop-group.invariant in
    c.in-Some.ensures ∙ here p f group (drop (at + 1) groups) (find p (flat_map f groups)) (ap is_some (sym c.in-Some.ensures)) before

pub loop-group-preserved : goal.loop-group-preserved
loop-group-preserved c =
    let p = can_enter c.args.op c.args.boxes.now in
    let f = sent_at c.args.outboxes.now in
    let groups = c.args.groups.now in
    let at = c.loop-group.group-index in
    let group = c.group-item.result in
    let first : drop at groups ≡ group ∷ drop (at + 1) groups = drop_more groups at group c.loop-group-test.true ∙ ap (λ (one : GroupId). one ∷ drop (at + 1) groups) (sym c.group-item.is) in
    let before = ap (λ (left : List GroupId). find p (flat_map f left)) (sym first) ∙ c.loop-group.invariant in
    not_here p f group (drop (at + 1) groups) (find p (flat_map f groups)) (ap is_some (sym c.in-None.ensures)) before
