use Rattle.std.proofs.Common.{◌∙◌, sym, ap}
use Rattle.mega_rules.specs.Clock.{clock_of}
use Rattle.mega_actions.specs.StandsAt.{StandsAt}
use Rattle.mega_answers.specs.of_step_work.Settings.{setting}
use Rattle.mega_answers.specs.of_step_work.Working.{work_of}
use Rattle.mega_replica.specs.Following.{progress_at}
use Rattle.mega_actions.proofs.Begun.{begins_indexed, met_stays, stored_stays}
use Rattle.mega_actions.proofs.replica.Replica.answers_indexed.Goals as goal

pub returns-clause-state : goal.returns-clause-state
returns-clause-state g c h now told once stands =
    let before = c.args.self.now in
    let s = setting before.members before.me h in
    let clock = clock_of now.met in
    coe 1 0 (i. StandsAt s before.voter.logs.kept before.leases before.digest (g.V.Versions.version before.rows.rows) (progress_at before.rows.progress) (met_stays s now c.args.op c.args.request.now clock once i) (stored_stays s now c.args.op c.args.request.now clock once i)) stands

pub returns-clause-work : goal.returns-clause-work
returns-clause-work g c h now told once stands indexed same =
    let before = c.args.self.now in
    let s = setting before.members before.me h in
    let is = begins_indexed s now c.args.op c.args.request.now (clock_of now.met) c.in_ok-answer.answer (c.in_ok-answer.ensures.answer now stands.stands.tells stands.stands.follows stands.stands.small indexed) in
    c.in_ok-does.ensures now same ∙ ap work_of (sym is)

pub returns-clause-indexed : goal.returns-clause-indexed
returns-clause-indexed g c h now told once stands indexed = c.in_ok-answer.ensures.marked now stands.stands.tells stands.stands.follows indexed
