use Rattle.std.proofs.Common.{◌∙◌, sym, ap, subst}
use Rattle.mega_replica.specs.Following.{progress_at}
use Rattle.mega_rules.specs.Clock.{clock_of}
use Rattle.mega_rules.specs.Operations.{Now}
use Rattle.mega_actions.specs.StandsAt.{StandsAt}
use Rattle.mega_answers.specs.RepresentsMet.{RepresentsMet}
use Rattle.mega_answers.specs.of_step_work.Settings.{setting}
use Rattle.mega_answers.specs.of_step_work.Working.{work_of}
use Rattle.mega_actions.proofs.Begun.{begins_answered}
use Rattle.mega_answers.proofs.Standing.{stands_seen}
use Rattle.mega_actions.proofs.replica.Replica.answers_now.Goals as goal

pub returns-clause-state : goal.returns-clause-state
returns-clause-state g c h now told once stands =
    let before = c.args.self.now in
    let s = setting before.members before.me h in
    let version = g.V.Versions.version in
    let rows = before.rows in
    let new = c.answer_now.new.rows in
    let is = begins_answered s now c.args.op c.args.request.now (clock_of now.met) c.in_ok-answer.answer (c.in_ok-answer.ensures.exact told before.me h before.leases now stands.stands) in
    let seen = stands_seen s before.voter.logs.kept before.leases (version rows.rows) (progress_at rows.progress) now.stored (version new.rows) now.met c.in_ok-answer.ensures.versions stands.stands in
    subst (λ (then : Now). StandsAt s before.voter.logs.kept before.leases before.digest (version new.rows) (progress_at new.progress) then.met then.stored) (sym is)
    (record { stands = coe 1 0 (i. RepresentsMet s before.voter.logs.kept before.leases (version new.rows) (progress_at (c.in_ok-answer.ensures.progress i)) now.met now.stored) seen; noted = stands.noted })

pub returns-clause-work : goal.returns-clause-work
returns-clause-work g c h now told once stands same =
    let before = c.args.self.now in
    let s = setting before.members before.me h in
    let is = begins_answered s now c.args.op c.args.request.now (clock_of now.met) c.in_ok-answer.answer (c.in_ok-answer.ensures.exact told before.me h before.leases now stands.stands) in
    c.in_ok-does.ensures now same ∙ ap work_of (sym is)
