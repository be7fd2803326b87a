use Rattle.std.proofs.Common.{◌∙◌, ap}
use Rattle.mega_outcome.specs.declared.answer.Answer.TheVariants.{Read as ReadAnswer}
use Rattle.mega_outcome.specs.Answers.{rows_at}
use Rattle.mega_view.proofs.Listed.{shown_all}
use Rattle.mega_view.proofs.answering.read_all.Goals as goal

pub returns-clause-exact : goal.returns-clause-exact
returns-clause-exact g c told listed shows =
    ap (ReadAnswer c.args.position)
    (c.in_ok-rows.ensures.shown
    ∙ shown_all c.args.schema.now c.args.group.now (rows_at (g.V.Versions.version c.args.rows.now) c.args.at.0) listed c.in_ok-found.found c.in_ok-rows.ensures.ordered (c.in_ok-found.ensures.found told) shows)
