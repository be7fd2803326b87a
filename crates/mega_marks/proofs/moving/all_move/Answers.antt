use Rattle.std.proofs.Common.{◌≡◌, ◌+◌, ◌∷◌, ◌∙◌, ap, drop, subst, sym}
use Rattle.std.proofs.lemmas.List.{drop_all, drop_more}
use Rattle.mega_outcome.specs.declared.answer.Mark.{Mark}
use Rattle.mega_marks.proofs.Onward.{OnWay, next_is, way_first, way_last, way_next}
use Rattle.mega_marks.proofs.moving.all_move.Goals as goal

pub loop-mark-init : goal.loop-mark-init
loop-mark-init g c met tells ascend within may = way_first c.args.schema.now c.args.index.now met may.from c.args.marks.now may.at may.leads

pub loop-mark-preserved : goal.loop-mark-preserved
loop-mark-preserved g c met tells ascend within may =
    let n = c.loop-mark.mark-index in
    let marks = c.args.marks.now in
    let schema = c.args.schema.now in
    let mark = c.mark-item.result in
    let left = drop (n + 1) marks in
    let first : drop n marks ≡ mark ∷ left = drop_more marks n mark c.loop-mark-test.true ∙ ap (λ (one : Mark). one ∷ left) (sym c.mark-item.is) in
    let way = subst (OnWay schema c.loop-mark.index met marks) first (c.loop-mark.invariant met tells ascend within may) in
    let is = next_is schema c.loop-mark.index met marks mark left ascend within way in
    way_next schema c.moves.new.index met marks mark way.done left way.whole (c.in_ok-moves.ensures met way.done left tells is.within is.before is.behind is.goes)

pub returns : goal.returns
returns g c met tells ascend within may =
    let marks = c.args.marks.now in
    way_last c.args.schema.now c.loop-mark.index met marks
    (subst (OnWay c.args.schema.now c.loop-mark.index met marks) (drop_all c.loop-mark.mark-index marks c.loop-mark-test.false) (c.loop-mark.invariant met tells ascend within may))
