use Rattle.std.proofs.Common.{◌∙◌, ap, subst, sym}
use Rattle.mega_rules.specs.Acting.{Next, rests_within}
use Rattle.mega_rules.specs.Operations.{Now}
use Rattle.mega_replica.specs.Following.{progress_at}
use Rattle.mega_answers.specs.RepresentsMet.{RepresentsMet}
use Rattle.mega_step_work.specs.Settings.{setting}
use Rattle.mega_step_work.specs.Working.{work_of}
use Rattle.mega_step_work.proofs.Doing.{does_met, does_stored}
use Rattle.mega_answers.proofs.Standing.{sees_log, stands_seen}
use Rattle.mega_answers.proofs.completing.goes.Goals as goal

pub returns-clause-state : goal.returns-clause-state
returns-clause-state g c me h leases now after told of le clock r is =
    let s = setting c.args.members.now me h in
    let kept = c.args.voter.now.logs.kept in
    let version = g.V.Versions.version in
    let rows = c.args.rows.now in
    let reached = c.args.reached in
    let action = c.in_ok-action.action in
    let sees = sees_log s kept leases (version rows.rows) (progress_at rows.progress) now reached.group reached.position r le in
    let seen = stands_seen s kept leases (version rows.rows) (progress_at rows.progress) now.stored (version c.finishes.new.rows) now.met c.finishes.ensures.versions r in
    subst (λ (then : Now). RepresentsMet s kept leases (version c.finishes.new.rows) (progress_at rows.progress) then.met then.stored) (ap (rests_within 0 s) (c.in_ok-action.ensures.action told me h now r.tells clock sees of ∙ is))
    (coe 0 1 (i. RepresentsMet s kept leases (version c.finishes.new.rows) (progress_at rows.progress) (sym (does_met now action) i) (sym (does_stored now action) i)) seen)

pub returns-clause-work : goal.returns-clause-work
returns-clause-work g c me h leases now after told of le clock r is was =
    let rows = c.args.rows.now in
    let reached = c.args.reached in
    let sees = sees_log (setting c.args.members.now me h) c.args.voter.now.logs.kept leases (g.V.Versions.version rows.rows) (progress_at rows.progress) now reached.group reached.position r le in
    c.in_ok-does.ensures now was ∙ ap (λ (next : Next). work_of (rests_within 0 (setting c.args.members.now me h) next)) (c.in_ok-action.ensures.action told me h now r.tells clock sees of ∙ is)
