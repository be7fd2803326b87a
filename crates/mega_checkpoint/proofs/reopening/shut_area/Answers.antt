use Rattle.std.proofs.Common.{ℕ, ◌+◌, ◌<◌, List, length, get_or, sym, ◌∙◌, ap, subst}
use Rattle.std.proofs.lemmas.Result.{on_ok_weaker}
use Rattle.mega_disk.specs.Images.{Only}
use Rattle.mega_disk.proofs.Leaves.{weaker_leaves}
use Rattle.mega_disk.proofs.Outcomes.{both_ok}
use Rattle.mega_areas.specs.Pages.{chain_in, offset}
use Rattle.mega_checkpoint.specs.Format.{list_of}
use Rattle.mega_checkpoint.specs.Held.{HoldsAreas}
use Rattle.mega_areas.specs.Places.{Sets}
use Rattle.mega_areas.proofs.Offsets.{inside}
use Rattle.mega_checkpoint.proofs.Plain.{shut_by, open_by}
use Rattle.mega_checkpoint.proofs.Ended.{area_read, held_shut, held_closed, ended_list}
use Rattle.mega_checkpoint.proofs.reopening.shut_area.Goals as goal

pub set_byte-requires-clause-inside : goal.set_byte-requires-clause-inside
set_byte-requires-clause-inside g c told =
    subst (λ (n : ℕ). offset c.args.areas.active (c.args.end + 9) < n) (sym (sym (ap length (c.requires.bytes told)) ∙ c.requires.size)) (inside c.args.areas.active (c.args.end + 9) c.args.areas.pages c.requires.inside)

pub returns-then-closed-clause-held : goal.returns-then-closed-clause-held
returns-then-closed-clause-held g c told =
    let is = c.requires.bytes told in
    let file = c.args.bytes.now in
    let left = g.D.Disk.may_leave c.args.disk.now in
    let read = area_read file c.args.areas c.args.end c.requires.form c.requires.size c.requires.counts c.requires.number c.requires.other c.requires.read c.requires.inside in
    subst (λ (f : List ℕ). HoldsAreas f left c.args.areas c.args.end) is
    (held_shut file c.args.areas c.args.end read left (subst (λ (f : List ℕ). Only f left) (sym is) (c.requires.durable told)) (shut_by (get_or (chain_in c.args.areas.active file) c.args.end 1) (sym c.requires.closed ∙ c.if-closed.true)))

pub returns-clause-same : goal.returns-clause-same
returns-clause-same g c told =
    let is = c.requires.bytes told in
    let file = c.args.bytes.now in
    let read = area_read file c.args.areas c.args.end c.requires.form c.requires.size c.requires.counts c.requires.number c.requires.other c.requires.read c.requires.inside in
    let one = open_by (get_or (chain_in c.args.areas.active file) c.args.end 1) (sym c.requires.closed ∙ c.if-closed.false) in
    on_ok_weaker c.set_byte.result
    (λ set. ended_list file c.args.areas c.args.end read one 0 _ (subst (λ (f : List ℕ). Sets c.args.areas.active (c.args.end + 9) 0 f (g.D.Disk.seen c.set_byte.new.disk)) (sym is) set) ∙ ap list_of is)
    (c.set_byte.ensures.set told)

pub returns-clause-held : goal.returns-clause-held
returns-clause-held g c told =
    let is = c.requires.bytes told in
    let file = c.args.bytes.now in
    let read = area_read file c.args.areas c.args.end c.requires.form c.requires.size c.requires.counts c.requires.number c.requires.other c.requires.read c.requires.inside in
    let one = open_by (get_or (chain_in c.args.areas.active file) c.args.end 1) (sym c.requires.closed ∙ c.if-closed.false) in
    both_ok c.set_byte.result
    (λ set durable. held_closed file c.args.areas c.args.end read one _ _ (subst (λ (f : List ℕ). Sets c.args.areas.active (c.args.end + 9) 0 f (g.D.Disk.seen c.set_byte.new.disk)) (sym is) set) durable)
    (c.set_byte.ensures.set told) (c.set_byte.ensures.durable told)

pub returns-clause-any_moment : goal.returns-clause-any_moment
returns-clause-any_moment g c told =
    let is = c.requires.bytes told in
    let file = c.args.bytes.now in
    let read = area_read file c.args.areas c.args.end c.requires.form c.requires.size c.requires.counts c.requires.number c.requires.other c.requires.read c.requires.inside in
    let one = open_by (get_or (chain_in c.args.areas.active file) c.args.end 1) (sym c.requires.closed ∙ c.if-closed.false) in
    weaker_leaves g.D.Disk.moment g.D.Disk.left_since c.args.disk.now c.set_byte.new.disk _ _ (c.set_byte.ensures.any_moment told)
    (λ image set. ended_list file c.args.areas c.args.end read one set.0 image (subst (λ (f : List ℕ). Sets c.args.areas.active (c.args.end + 9) set.0 f image) (sym is) set.1) ∙ ap list_of is)
