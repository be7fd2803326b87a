use Rattle.std.proofs.Common.{ℕ, ◌<◌, sym, ◌∙◌, subst, arith}
use Rattle.std.proofs.lemmas.Result.{on_ok_weaker}
use Rattle.mega_disk.proofs.Leaves.{weaker_leaves}
use Rattle.mega_disk.proofs.Outcomes.{both_ok}
use Rattle.mega_areas.specs.declared.area.Area.{Area}
use Rattle.mega_areas.specs.Pages.{offset}
use Rattle.mega_areas.specs.Places.{Sets}
use Rattle.mega_areas.proofs.Offsets.{inside}
use Rattle.mega_checkpoint.proofs.Swapped.{set_list, set_shut, some_room, was_open}
use Rattle.mega_checkpoint.proofs.replacing.shut_other.Goals as goal

pub set_byte-requires-clause-inside : goal.set_byte-requires-clause-inside
set_byte-requires-clause-inside g c told =
    let h = c.requires.held told in
    let few = some_room (g.D.Disk.seen c.args.disk.now) c.args.areas.pages h.size h.form in
    subst (λ (n : ℕ). offset c.other.result 0 < n) (sym h.size) (inside c.other.result 0 c.args.areas.pages (omega (arith, few)))

pub returns-clause-same : goal.returns-clause-same
returns-clause-same g c told =
    let file = g.D.Disk.seen c.args.disk.now in
    let h = c.requires.held told in
    on_ok_weaker c.set_byte.result
    (λ set. (set_list c.args.areas.active c.args.end file h.form h.counting h.at_rest (h.other ∙ was_open c.args.areas.other_open c.if-not-areas.false) 0 (g.D.Disk.seen c.set_byte.new.disk) (subst (λ (a : Area). Sets a 0 0 file (g.D.Disk.seen c.set_byte.new.disk)) c.other.ensures set)))
    (c.set_byte.ensures.set told)

pub returns-clause-held : goal.returns-clause-held
returns-clause-held g c told =
    let file = g.D.Disk.seen c.args.disk.now in
    let h = c.requires.held told in
    both_ok c.set_byte.result
    (λ set durable. set_shut file c.args.areas c.args.end h (g.D.Disk.seen c.set_byte.new.disk) (subst (λ (a : Area). Sets a 0 0 file (g.D.Disk.seen c.set_byte.new.disk)) c.other.ensures set) durable)
    (c.set_byte.ensures.set told) (c.set_byte.ensures.durable told)

pub returns-clause-any_moment : goal.returns-clause-any_moment
returns-clause-any_moment g c told =
    let file = g.D.Disk.seen c.args.disk.now in
    let h = c.requires.held told in
    weaker_leaves g.D.Disk.moment g.D.Disk.left_since c.args.disk.now c.set_byte.new.disk _ _ (c.set_byte.ensures.any_moment told)
    (λ image set. set_list c.args.areas.active c.args.end file h.form h.counting h.at_rest (h.other ∙ was_open c.args.areas.other_open c.if-not-areas.false) set.0 image (subst (λ (a : Area). Sets a 0 set.0 file image) c.other.ensures set.1))
