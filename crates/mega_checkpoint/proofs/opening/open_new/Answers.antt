use Rattle.std.proofs.Common.{rules, ◌≡◌, ◌≤◌, List, [], ℕ, length, sym, ◌∙◌, subst, arith}
use Rattle.mega_disk.proofs.Leaves.{weaker_leaves, then_leaves}
use Rattle.mega_checkpoint.specs.Format.{list_of}
use Rattle.mega_checkpoint.proofs.Fresh.{list_few}
use Rattle.mega_checkpoint.proofs.opening.open_new.Goals as goal

pub returns-in_err-make-clause-any_moment : goal.returns-in_err-make-clause-any_moment
returns-in_err-make-clause-any_moment g c told =
    let file = g.D.Disk.seen c.args.disk.now in
    let none = list_few file (let few = subst (λ (f : List ℕ). length f ≤ 1) (c.requires.bytes told) c.requires.few in omega (arith, few)) in
    weaker_leaves g.D.Disk.moment g.D.Disk.left_since c.args.disk.now c.make.new.disk _ _ (c.make.ensures.any_moment told) (λ image empty. empty ∙ sym none)

pub returns-in_err-areas-clause-any_moment : goal.returns-in_err-areas-clause-any_moment
returns-in_err-areas-clause-any_moment g c told =
    let file = g.D.Disk.seen c.args.disk.now in
    let none = list_few file (let few = subst (λ (f : List ℕ). length f ≤ 1) (c.requires.bytes told) c.requires.few in omega (arith, few)) in
    then_leaves g.D.Disk.moment g.D.Disk.left_since c.args.disk.now c.make.new.disk c.begin.new.disk _ _ (λ image. list_of image ≡ list_of file) (c.make.ensures.any_moment told) (c.begin.ensures.any_moment told)
    (λ image empty. empty ∙ sym none) (λ image empty. empty ∙ sym none)

pub returns-clause-any_moment : goal.returns-clause-any_moment
returns-clause-any_moment g c told =
    let file = g.D.Disk.seen c.args.disk.now in
    let none = list_few file (let few = subst (λ (f : List ℕ). length f ≤ 1) (c.requires.bytes told) c.requires.few in omega (arith, few)) in
    then_leaves g.D.Disk.moment g.D.Disk.left_since c.args.disk.now c.make.new.disk c.begin.new.disk _ _ (λ image. list_of image ≡ list_of file) (c.make.ensures.any_moment told) (c.begin.ensures.any_moment told)
    (λ image empty. empty ∙ sym none) (λ image empty. empty ∙ sym none)

pub returns-clause-same : goal.returns-clause-same
returns-clause-same g c told =
    let file = g.D.Disk.seen c.args.disk.now in
    c.in_ok-areas.ensures.empty told ∙ sym (list_few file (let few = subst (λ (f : List ℕ). length f ≤ 1) (c.requires.bytes told) c.requires.few in omega (arith, few)))

pub returns-clause-records : goal.returns-clause-records
returns-clause-records g c told =
    let file = g.D.Disk.seen c.args.disk.now in
    let none : c.new-records.result.items ≡ [] = search rules in
    none ∙ sym (list_few file (let few = subst (λ (f : List ℕ). length f ≤ 1) (c.requires.bytes told) c.requires.few in omega (arith, few)))
