use Rattle.std.proofs.Common.{◌∙◌, ap, sym, refl}
use Rattle.mega_step_work.specs.of_operations.Whole.{whole}
use Rattle.mega_pumps.specs.Picks.{serves}
use Rattle.mega_step_work.specs.Settings.{setting}
use Rattle.mega_answers.proofs.pumping.serves.Goals as goal

pub returns-in_ok-heard-in-Some-clause-pumped : goal.returns-in_ok-heard-in-Some-clause-pumped
returns-in_ok-heard-in-Some-clause-pumped g c me h now phase stands groups =
    sym (c.in_ok-heard-in-Some.ensures.begins me h now phase stands.tells stands.leased)
    ∙ ap (serves (setting c.args.members.now me h) now (whole c.args.kept phase) c.args.asked) (sym c.in-Some.is)

pub returns-in_ok-pumped-in-None-clause-pumped : goal.returns-in_ok-pumped-in-None-clause-pumped
returns-in_ok-pumped-in-None-clause-pumped g c me h now phase stands groups =
    c.in_ok-pumped-in-None.ensures.pumped c.args.members.now me h c.args.leases.now now (whole c.args.kept phase) c.args.asked stands groups refl
    ∙ ap (serves (setting c.args.members.now me h) now (whole c.args.kept phase) c.args.asked) (sym c.in-None.is)
