use Rattle.std.proofs.Common.{◌∙◌, Option, sym, ap, ℕ}
use Rattle.mega_operations.specs.Phases.{promised_of}
use Rattle.mega_rules.specs.Acting.{proposes_by}
use Rattle.mega_step_work.specs.Reaching.{operation_of}
use Rattle.mega_step_choices.specs.Settings.{setting}
use Rattle.mega_step_work.proofs.complete_read.CompleteRead.proposes.Goals as goal

pub returns-in_ok-action-in-Some : goal.returns-in_ok-action-in-Some
returns-in_ok-action-in-Some g c me h now tells clock =
    let self = c.args.self in
    c.in_ok-action-in-Some.ensures me h now tells clock
    ∙ ap (λ (leader : Option ℕ). proposes_by (setting c.args.members.now me h) now (operation_of self) self.group self.reading self.position c.args.own (promised_of c.args.promised) leader) (sym c.in-Some.is ∙ c.leader_after.ensures me h now tells)
