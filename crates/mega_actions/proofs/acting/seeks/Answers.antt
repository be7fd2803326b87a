use Rattle.std.proofs.Common.{◌∙◌, ap}
use Rattle.mega_answers.specs.of_operations.Whole.{whole}
use Rattle.mega_read.specs.Catching.{seeks}
use Rattle.mega_rules.specs.Acting.{keeps, reader_of, sends_more}
use Rattle.mega_rules.specs.Operations.{Reads}
use Rattle.mega_answers.specs.of_step_work.Settings.{setting}
use Rattle.mega_actions.proofs.acting.seeks.Goals as goal

pub returns-in-Ok : goal.returns-in-Ok
returns-in-Ok c me h now clock =
    let kept = c.args.kept in
    let group = c.args.group in
    let made = c.in-Ok.ensures me h ∙ ap (λ k. seeks (reader_of (setting c.args.members.now me h) kept.id group) c.args.reading c.args.least k) clock in
    ap (keeps (sends_more now c.in-Ok.made.sends)) c.in_phase-operation.ensures ∙ (λ i. keeps (sends_more now (made i).sends) (whole kept (Reads group (made i).reading)))
