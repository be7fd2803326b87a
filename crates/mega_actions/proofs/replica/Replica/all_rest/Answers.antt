use Rattle.std.proofs.Common.{◌∙◌, List, All, ap, rules, subst, sym}
use Rattle.mega_rules.specs.Operations.{Now}
use Rattle.mega_rules.specs.Steps.{Heard, all_act, at_first}
use Rattle.mega_actions.specs.IsAt.{IsAt}
use Rattle.mega_actions.specs.Turns.{IsHeardAbout, IsServableHeard}
use Rattle.mega_answers.specs.of_step_work.Settings.{setting}
use Rattle.mega_answers.specs.of_step_work.Working.{work_of}
use Rattle.mega_actions.specs.Waiting.{Waits}
use Rattle.mega_actions.proofs.Unmoved.{all_rest_is, unheard_about, unheard_servable}
use Rattle.mega_actions.proofs.replica.Replica.all_rest.Goals as goal

pub returns-then-are_waiting-clause-state : goal.returns-then-are_waiting-clause-state
returns-then-are_waiting-clause-state g c h met stored told means about at =
    let s = setting c.args.self.now.members c.args.self.now.me h in
    let rests = all_rest_is s c.args.self.now.voter.logs.kept met stored at.stands.tells c.args.operations (subst (All (Waits c.args.self.now.voter.logs.kept)) c.as_slice.ensures (c.are_waiting.ensures c.if-are_waiting.true)) in
    subst (λ (then : Now). IsAt g.V.Versions.version h c.args.self.now then.met then.stored) (sym rests) at

pub returns-then-are_waiting-clause-work : goal.returns-then-are_waiting-clause-work
returns-then-are_waiting-clause-work g c h met stored told means about at =
    let s = setting c.args.self.now.members c.args.self.now.me h in
    let rests = all_rest_is s c.args.self.now.voter.logs.kept met stored at.stands.tells c.args.operations (subst (All (Waits c.args.self.now.voter.logs.kept)) c.as_slice.ensures (c.are_waiting.ensures c.if-are_waiting.true)) in
    c.at_rest.ensures ∙ sym (ap work_of rests)

pub returns-clause-state : goal.returns-clause-state
returns-clause-state g c h met stored told means about at =
    let s = setting c.args.self.now.members c.args.self.now.me h in
    let first = at_first met stored in
    let is = c.in_ok-heard.ensures in
    subst (λ (ts : List Heard). IsAt g.V.Versions.version h c.all_act.new.self (all_act s first ts).met (all_act s first ts).stored) is
    (c.in_ok-all_act.ensures.state h first told means (subst (All IsHeardAbout) (sym is) (unheard_about c.args.operations about)) at)

pub returns-clause-work : goal.returns-clause-work
returns-clause-work g c h met stored told means about at =
    let s = setting c.args.self.now.members c.args.self.now.me h in
    let first = at_first met stored in
    let is = c.in_ok-heard.ensures in
    c.in_ok-all_act.ensures.work h first told means (subst (All IsHeardAbout) (sym is) (unheard_about c.args.operations about)) at c.in_ok-work.ensures
    ∙ ap (λ (ts : List Heard). work_of (all_act s first ts)) is

pub returns-in_err-all_act-clause-unserved : goal.returns-in_err-all_act-clause-unserved
returns-in_err-all_act-clause-unserved g c is all =
    let served = subst (All IsServableHeard) (sym c.in_ok-heard.ensures) (unheard_servable c.args.operations all) in
    c.all_act.ensures.unserved (search rules) served
