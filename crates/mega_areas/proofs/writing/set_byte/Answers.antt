use Rattle.std.proofs.Common.{ℕ, [], ◌∷◌, sym, ◌∙◌, ap, subst}
use Rattle.std.proofs.lemmas.Result.{on_ok_weaker}
use Rattle.mega_disk.specs.Images.{overwritten, Torn}
use Rattle.mega_disk.proofs.Leaves.{weaker_leaves}
use Rattle.mega_areas.specs.Places.{Sets}
use Rattle.mega_areas.proofs.Kept.{set_whole, set_torn}
use Rattle.mega_areas.proofs.writing.set_byte.Goals as goal

pub returns-clause-set : goal.returns-clause-set
returns-clause-set g c told =
    let old = g.D.Disk.seen c.args.disk.now in
    on_ok_weaker c.write_through.result
    (λ written. subst (Sets c.args.area c.args.place c.args.byte old) (sym (written ∙ ap (λ (at : ℕ). overwritten at (c.args.byte ∷ []) old) c.offset.ensures)) (set_whole c.args.area c.args.place c.args.byte old (c.requires.inside told)))
    (c.write_through.ensures.written told)

pub returns-clause-any_moment : goal.returns-clause-any_moment
returns-clause-any_moment g c told =
    let old = g.D.Disk.seen c.args.disk.now in
    weaker_leaves g.D.Disk.moment g.D.Disk.left_since c.args.disk.now c.write_through.new.disk _ _ (c.write_through.ensures.any_moment told (c.requires.durable told))
    (λ image torn. set_torn c.args.area c.args.place old image (c.requires.inside told) (subst (λ (at : ℕ). Torn at 1 old image) c.offset.ensures torn))
