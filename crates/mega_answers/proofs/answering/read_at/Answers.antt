use Rattle.std.proofs.Common.{◌∙◌, sym, ap}
use Rattle.mega_outcome.specs.declared.transaction.Transaction.{Transaction}
use Rattle.mega_outcome.specs.Answers.{rows_at}
use Rattle.mega_outcome.specs.Outcome.{outcome}
use Rattle.mega_answers.proofs.Shown.{read_told}
use Rattle.mega_answers.proofs.answering.read_at.Goals as goal

pub returns-in-Ok-clause-exact : goal.returns-in-Ok-clause-exact
returns-in-Ok-clause-exact g c told s seen listed same named agree =
    let looked = rows_at (g.V.Versions.version c.args.rows.now) c.args.at in
    read_told s c.args.schema.now c.args.read.now c.args.position looked seen listed c.in-Ok.came same named agree
    (c.in-Ok.ensures.exact told ∙ ap (λ (txn : Transaction). outcome c.args.schema.now txn looked) c.in_ok-txn.ensures)
    ∙ sym c.told.ensures
