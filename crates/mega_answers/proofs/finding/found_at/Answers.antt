use Rattle.std.proofs.Common.{◌∙◌, List, sym, ap}
use Rattle.mega_base.specs.declared.values.Value.{Value}
use Rattle.mega_index.specs.Finding.{found_over}
use Rattle.mega_rules.specs.Finding.{find_answer, mark_at}
use Rattle.mega_answers.proofs.Asked.{found_is}
use Rattle.mega_answers.proofs.Refused.{used_error, used_looks}
use Rattle.mega_answers.proofs.finding.found_at.Goals as goal

pub returns-in_ok-answer-in-Ok-clause-exact : goal.returns-in_ok-answer-in-Ok-clause-exact
returns-in_ok-answer-in-Ok-clause-exact g c told small listed of shows =
    c.in_ok-answer-in-Ok.ensures
    ∙ (λ i. find_answer (c.in_ok-marks.ensures i) (c.in-Ok.ensures.exact told small listed shows i))
    ∙ ap (λ (values : List Value). find_answer (mark_at c.args.group.now c.args.position) (found_over c.args.schema.now c.args.find.now.index c.args.group.now.key values listed)) c.as_slice.ensures
    ∙ sym (found_is c.args.schema.now c.args.find.now c.args.group.now c.args.position listed of)

pub returns-in_ok-answer-in-Ok-clause-versions : goal.returns-in_ok-answer-in-Ok-clause-versions
returns-in_ok-answer-in-Ok-clause-versions g c key p = λ i. c.in-Ok.ensures.looks.looked.versions i key p

pub returns-in_ok-answer-in-Ok-clause-used : goal.returns-in_ok-answer-in-Ok-clause-used
returns-in_ok-answer-in-Ok-clause-used g c = used_looks g.V.Versions _ c.args.rows.now c.find_all.new.rows c.in-Ok.ensures.looks

pub returns-in-Err-clause-versions : goal.returns-in-Err-clause-versions
returns-in-Err-clause-versions g c key p = λ i. c.in-Err.ensures.looks.looked.versions i key p

pub returns-in-Err-clause-used : goal.returns-in-Err-clause-used
returns-in-Err-clause-used g c = used_error g.V.Versions c.in-Err.error c.fault_by.result c.args.rows.now c.find_all.new.rows c.fault_by.ensures.exact c.in-Err.ensures.looks
