use Rattle.std.proofs.Common.{List, ℕ, ◌≡◌, ◌∷◌, [], sym, ◌∙◌, ap, subst}
use Rattle.std.proofs.lemmas.Result.{on_ok_weaker}
use Rattle.mega_disk.proofs.Leaves.{then_leaves}
use Rattle.mega_disk.specs.Images.{overwritten, Torn}
use Rattle.mega_chain.specs.Chain.{records_of}
use Rattle.mega_disk.proofs.Outcomes.{both_ok}
use Rattle.mega_chain.proofs.Repaired.{closed_end, torn_end, when_open}
use Rattle.mega_chain.proofs.ending.shut.Goals as goal

pub returns-clause-same : goal.returns-clause-same
returns-clause-same g c told =
    let is_gate = ap (overwritten c.args.end (0 ∷ [])) (c.in_ok-ends_shut.ensures.seen) in
    on_ok_weaker c.write_through.result (λ written. (closed_end (g.D.Disk.seen c.args.disk.now) c.args.end (c.requires.read told) _ (written ∙ is_gate)).1) (c.write_through.ensures.written told)

pub returns-clause-settled : goal.returns-clause-settled
returns-clause-settled g c told =
    let is_gate = ap (overwritten c.args.end (0 ∷ [])) (c.in_ok-ends_shut.ensures.seen) in
    both_ok c.write_through.result (λ written durable. record { at_rest = (closed_end (g.D.Disk.seen c.args.disk.now) c.args.end (c.requires.read told) _ (written ∙ is_gate)).0; durable = durable })
    (c.write_through.ensures.written told) (c.write_through.ensures.durable told)

pub returns-clause-any_moment : goal.returns-clause-any_moment
returns-clause-any_moment g c told =
    let file = g.D.Disk.seen c.args.disk.now in
    let is = c.requires.read told in
    let same = c.in_ok-ends_shut.ensures.seen in
    let test = sym (c.in_ok-ends_shut.ensures.value told) ∙ c.if-branch.false in
    let P : List ℕ → Type 0 = λ image. records_of image ≡ records_of file in
    then_leaves g.D.Disk.moment g.D.Disk.left_since c.args.disk.now c.ends_shut.new.disk c.write_through.new.disk _ _ P c.ends_shut.ensures.any_moment
    (c.write_through.ensures.any_moment told (λ image left. c.requires.durable told image (c.ends_shut.ensures.within image left) ∙ sym same))
    (λ image left. ap records_of (c.requires.durable told image left))
    (λ image torn. torn_end file c.args.end is (when_open file c.args.end is test) image (subst (λ (l : List ℕ). Torn c.args.end 1 l image) same torn))
