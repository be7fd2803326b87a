use Rattle.std.proofs.Common.{List, ℕ, refl, ◌∙◌, ap}
use Rattle.mega_disk.proofs.Leaves.{then_leaves}
use Rattle.mega_checkpoint.specs.Format.{list_of}
use Rattle.mega_checkpoint.specs.Held.{HoldsAs}
use Rattle.mega_checkpoint.proofs.opening.open_file.Goals as goal

pub returns-clause-any_moment : goal.returns-clause-any_moment
returns-clause-any_moment g c told =
    let disk = c.args.disk.now in
    let P : List ℕ → Type 0 = HoldsAs (g.D.Disk.may_leave disk) in
    let read = then_leaves g.D.Disk.moment g.D.Disk.left_since disk c.settle.new.disk c.read_all.new.disk _ _ P c.settle.ensures.any_moment c.read_all.ensures.any_moment
    (λ image left. (image, left, refl)) (λ image left. (image, c.settle.ensures.within image left, refl)) in
    then_leaves g.D.Disk.moment g.D.Disk.left_since disk c.read_all.new.disk c.open_read.new.disk P _ P read (c.open_read.ensures.any_moment told) (λ image p. p)
    (λ image same. (g.D.Disk.seen disk, g.met.D.Disk.seen_is_left disk, same ∙ ap list_of (c.in_ok-bytes.ensures.seen ∙ c.in_ok-settle.ensures.seen)))
