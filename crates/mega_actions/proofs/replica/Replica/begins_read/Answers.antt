use Rattle.std.proofs.Common.{◌∙◌, refl, ap, subst}
use Rattle.mega_rules.specs.Clock.{clock_of}
use Rattle.mega_rules.specs.Operations.{Now}
use Rattle.mega_rules.specs.Steps.{new_operation}
use Rattle.mega_actions.specs.IsAt.{IsAt}
use Rattle.mega_answers.specs.of_step_work.Settings.{setting}
use Rattle.mega_answers.specs.of_step_work.Working.{work_of}
use Rattle.mega_actions.proofs.Begun.{begins_in_turn}
use Rattle.mega_actions.proofs.replica.Replica.begins_read.Goals as goal

pub returns-in_ok-acts_in_turn-in-Ok-clause-state : goal.returns-in_ok-acts_in_turn-in-Ok-clause-state
returns-in_ok-acts_in_turn-in-Ok-clause-state g c h now told means current stands =
    let before = c.args.self.now in
    let new = c.acts_in_turn.new.self in
    let s = setting before.members before.me h in
    let first = c.in-Ok.first in
    let known = c.in-Ok.ensures in
    subst (λ (then : Now). IsAt g.V.Versions.version h new then.met then.stored)
    (begins_in_turn s now c.args.op c.args.request c.now.result first.visited first.group first.made (c.now.ensures before.members before.me now.met stands.stands.leased) known.visited
    (known.read h now (new_operation c.args.op c.args.request (clock_of now.met)) refl refl stands.stands.tells stands.stands.leased) known.group.0 current known.group.1)
    (c.in_ok-acts_in_turn-in-Ok.ensures.state h now told means known.group.1 stands)

pub returns-in_ok-acts_in_turn-in-Ok-clause-work : goal.returns-in_ok-acts_in_turn-in-Ok-clause-work
returns-in_ok-acts_in_turn-in-Ok-clause-work g c h now told means current stands same =
    let before = c.args.self.now in
    let s = setting before.members before.me h in
    let first = c.in-Ok.first in
    let known = c.in-Ok.ensures in
    c.in_ok-acts_in_turn-in-Ok.ensures.work h now told means known.group.1 stands same
    ∙ ap work_of (begins_in_turn s now c.args.op c.args.request c.now.result first.visited first.group first.made (c.now.ensures before.members before.me now.met stands.stands.leased) known.visited
    (known.read h now (new_operation c.args.op c.args.request (clock_of now.met)) refl refl stands.stands.tells stands.stands.leased) known.group.0 current known.group.1)
