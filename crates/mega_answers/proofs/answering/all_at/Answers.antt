use Rattle.std.proofs.Common.{◌∙◌, sym, ap}
use Rattle.mega_outcome.specs.declared.answer.Answer.TheVariants.{Read as ReadAnswer}
use Rattle.mega_outcome.specs.Reads.{all_rows}
use Rattle.mega_schema.specs.declared.schema.Schema.{Schema}
use Rattle.mega_answers.proofs.Refused.{used_error, used_looks}
use Rattle.mega_answers.proofs.Shown.{all_shown}
use Rattle.mega_answers.proofs.answering.all_at.Goals as goal

pub returns-in-Ok-clause-exact : goal.returns-in-Ok-clause-exact
returns-in-Ok-clause-exact g c told s seen listed same none shows =
    let p = c.args.position in
    all_shown s c.args.read.now p seen listed none
    ∙ ap (λ (schema : Schema). ReadAnswer (record { 0 = p }) (all_rows schema c.args.read.now.group listed)) same
    ∙ sym (c.in-Ok.ensures.exact told listed shows)

pub returns-in-Ok-clause-versions : goal.returns-in-Ok-clause-versions
returns-in-Ok-clause-versions g c key p = λ i. c.in-Ok.ensures.looks.looked.versions i key p

pub returns-in-Ok-clause-used : goal.returns-in-Ok-clause-used
returns-in-Ok-clause-used g c = used_looks g.V.Versions _ c.args.rows.now c.read_all.new.rows c.in-Ok.ensures.looks

pub returns-in-Err-clause-versions : goal.returns-in-Err-clause-versions
returns-in-Err-clause-versions g c key p = λ i. c.in-Err.ensures.looks.looked.versions i key p

pub returns-in-Err-clause-used : goal.returns-in-Err-clause-used
returns-in-Err-clause-used g c = used_error g.V.Versions c.in-Err.error c.fault_by.result c.args.rows.now c.read_all.new.rows c.fault_by.ensures.exact c.in-Err.ensures.looks
