use Rattle.std.proofs.Common.{◌∙◌}
use Rattle.mega_pumps.specs.Owns.{picks_by}
use Rattle.mega_rules.specs.Operations.{Reads}
use Rattle.mega_step_work.specs.Reaching.{operation_of}
use Rattle.mega_step_work.specs.Settings.{setting}
use Rattle.mega_answers.proofs.pumping.picks_again.Goals as goal

pub returns-in_ok-pumped-in-Ok-clause-pumped : goal.returns-in_ok-pumped-in-Ok-clause-pumped
returns-in_ok-pumped-in-Ok-clause-pumped g c me h now stands noted =
    let reached = c.args.reached in
    c.in_ok-pumped-in-Ok.ensures.pumped me h now (Reads reached.group reached.reading) stands noted
    ∙ (λ i. picks_by (c.is_entering-entering.ensures i) (setting c.args.members.now me h) now (operation_of reached) (c.in-Ok.ensures i))
