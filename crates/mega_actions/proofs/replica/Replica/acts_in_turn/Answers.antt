use Rattle.std.proofs.Common.{◌≡◌, subst}
use Rattle.mega_rules.specs.Acting.{sends_more}
use Rattle.mega_rules.specs.Steps.{Heard, acts_in_turn}
use Rattle.mega_replica.specs.Following.{progress_at}
use Rattle.mega_actions.specs.IsAt.{IsAt}
use Rattle.mega_actions.specs.StandsAt.{StandsAt}
use Rattle.mega_answers.specs.of_step_work.Settings.{setting}
use Rattle.mega_actions.specs.Turns.{IsHeardAbout}
use Rattle.mega_answers.specs.of_step_work.Working.{work_of}
use Rattle.mega_actions.proofs.replica.Replica.acts_in_turn.Goals as goal

pub returns-in_ok-acts-in-Ok-clause-state : goal.returns-in_ok-acts-in-Ok-clause-state
returns-in_ok-acts-in-Ok-clause-state g c h now told means =
    let self = c.acts.new.self in
    let s = setting c.args.self.now.members c.args.self.now.me h in
    subst (λ (t : Heard). IsHeardAbout t → StandsAt s c.args.self.now.voter.logs.kept c.args.self.now.leases c.args.self.now.digest (g.V.Versions.version c.args.self.now.rows.rows) (progress_at c.args.self.now.rows.progress) now.met now.stored
    → IsAt g.V.Versions.version h self (acts_in_turn s now t).met (acts_in_turn s now t).stored)
    c.heard.view_is (c.in_ok-acts-in-Ok.ensures.state h (sends_more now c.heard.inside.sends) told means)

pub returns-in_ok-acts-in-Ok-clause-work : goal.returns-in_ok-acts-in-Ok-clause-work
returns-in_ok-acts-in-Ok-clause-work g c h now told means =
    let self = c.args.self.now in
    let s = setting self.members self.me h in
    subst (λ (t : Heard). IsHeardAbout t → StandsAt s self.voter.logs.kept self.leases self.digest (g.V.Versions.version self.rows.rows) (progress_at self.rows.progress) now.met now.stored
    → c.args.work.now ≡ work_of now → c.acts.new.work ≡ work_of (acts_in_turn s now t))
    c.heard.view_is (λ about stands same. c.in_ok-acts-in-Ok.ensures.work h (sends_more now c.heard.inside.sends) told means about stands (c.in-Ok.ensures now same))
