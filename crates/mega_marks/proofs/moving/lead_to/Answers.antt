use Rattle.std.proofs.Common.{◌≡◌, ◌∙◌, ◌≤◌, List, [], ◌∷◌, length, false, ap, refl, rules, sym, arith}
use Rattle.std.proofs.lemmas.List.{drop_all}
use Rattle.mega_outcome.specs.declared.answer.Mark.{Mark}
use Rattle.mega_marks.specs.Marked.{lead_to}
use Rattle.mega_marks.proofs.moving.lead_to.Goals as goal

lead_nowhere : (marks : List Mark) → 1 ≤ length marks → false ≡ lead_to marks []
lead_nowhere [] long = absurd (omega (arith, long))
lead_nowhere (mark ∷ marks) long = refl

pub returns-in-len1-up-left : goal.returns-in-len1-up-left
returns-in-len1-up-left c =
    let long : 1 ≤ length c.loop-last.left.now = search rules in
    lead_nowhere c.loop-last.left.now long
    ∙ ap (lead_to c.loop-last.left.now) (sym (drop_all c.loop-last.last-index c.args.ends.now c.loop-last-test.false))
    ∙ c.loop-last.invariant
