use Rattle.std.proofs.Common.{◌∙◌, refl}
use Rattle.mega_step_work.specs.of_operations.Whole.{whole}
use Rattle.mega_step_work.specs.Settings.{setting}
use Rattle.mega_answers.proofs.pumping.picks.Goals as goal

pub returns-in_ok-pumped-in-Ok-clause-pumped : goal.returns-in_ok-pumped-in-Ok-clause-pumped
returns-in_ok-pumped-in-Ok-clause-pumped g c me h now phase stands noted =
    c.in_ok-pumped-in-Ok.ensures.pumped me h now phase stands (c.as_slice-groups.ensures.value ∙ c.in-Ok.ensures.groups now stands.tells)
    ∙ c.in-Ok.ensures.picked (setting c.args.members.now me h) now (whole c.args.kept phase) c.args.asked stands.tells stands.follows noted refl
