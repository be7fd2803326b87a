use Rattle.std.proofs.Common.{ℕ, List, [], ◌∷◌, get_or, sym, ◌∙◌, ap, subst, arith}
use Rattle.std.proofs.lemmas.Result.{on_ok_weaker}
use Rattle.mega_disk.specs.Images.{overwritten, Torn, Only}
use Rattle.mega_disk.proofs.Leaves.{weaker_leaves}
use Rattle.mega_disk.proofs.Steps.{torn_written}
use Rattle.mega_disk.proofs.Outcomes.{both_ok}
use Rattle.mega_checkpoint.specs.Format.{list_of}
use Rattle.mega_checkpoint.specs.Held.{HoldsChain}
use Rattle.mega_checkpoint.proofs.Plain.{shut_by, open_by, shut_held, open_list, open_held}
use Rattle.mega_checkpoint.proofs.chain.shut_chain.Goals as goal

pub returns-then-is_shut-clause-held : goal.returns-then-is_shut-clause-held
returns-then-is_shut-clause-held g c told =
    let is = c.requires.bytes told in
    let left = g.D.Disk.may_leave c.args.disk.now in
    subst (λ (f : List ℕ). HoldsChain f left c.args.end) is
    (shut_held c.args.bytes.now c.args.end c.requires.read c.requires.chain c.requires.inside c.requires.gate (shut_by (get_or c.args.bytes.now c.args.end 1) (sym c.is_shut.ensures ∙ c.if-is_shut.true)) left
    (subst (λ (f : List ℕ). Only f left) (sym is) (c.requires.durable told)))

pub returns-clause-same : goal.returns-clause-same
returns-clause-same g c told =
    let is = c.requires.bytes told in
    let file = c.args.bytes.now in
    let one = open_by (get_or file c.args.end 1) (sym c.is_shut.ensures ∙ c.if-is_shut.false) in
    on_ok_weaker c.write_through.result
    (λ written. open_list file c.args.end c.requires.read c.requires.chain c.requires.inside one _ (subst (Torn c.args.end 1 file) (sym (written ∙ ap (overwritten c.args.end (0 ∷ [])) (sym is))) (torn_written c.args.end (0 ∷ []) file (let i = c.requires.inside in omega (arith, i)))) ∙ ap list_of is)
    (c.write_through.ensures.written told)

pub returns-clause-held : goal.returns-clause-held
returns-clause-held g c told =
    let is = c.requires.bytes told in
    let file = c.args.bytes.now in
    let one = open_by (get_or file c.args.end 1) (sym c.is_shut.ensures ∙ c.if-is_shut.false) in
    both_ok c.write_through.result
    (λ written durable. open_held file c.args.end c.requires.read c.requires.chain c.requires.inside one _ _ (written ∙ ap (overwritten c.args.end (0 ∷ [])) (sym is)) durable)
    (c.write_through.ensures.written told) (c.write_through.ensures.durable told)

pub returns-clause-any_moment : goal.returns-clause-any_moment
returns-clause-any_moment g c told =
    let is = c.requires.bytes told in
    let file = c.args.bytes.now in
    let one = open_by (get_or file c.args.end 1) (sym c.is_shut.ensures ∙ c.if-is_shut.false) in
    weaker_leaves g.D.Disk.moment g.D.Disk.left_since c.args.disk.now c.write_through.new.disk _ _ (c.write_through.ensures.any_moment told (c.requires.durable told))
    (λ image torn. open_list file c.args.end c.requires.read c.requires.chain c.requires.inside one image (subst (λ (f : List ℕ). Torn c.args.end 1 f image) (sym is) torn) ∙ ap list_of is)
