use Rattle.std.proofs.Common.{◌∙◌, ap, subst, sym}
use Rattle.mega_rules.specs.Operations.{Now}
use Rattle.mega_replica.specs.Following.{progress_at}
use Rattle.mega_answers.specs.RepresentsMet.{RepresentsMet}
use Rattle.mega_step_work.specs.Settings.{setting}
use Rattle.mega_step_work.specs.Working.{work_of}
use Rattle.mega_answers.proofs.completing.reads_through.Goals as goal

pub returns-clause-state : goal.returns-clause-state
returns-clause-state g c cluster me h now r =
    let rows = c.completes_read.new.rows in
    subst (λ (then : Now). RepresentsMet (setting cluster me h) c.args.voter.now.logs.kept c.completes_read.new.leases (g.V.Versions.version rows.rows) (progress_at rows.progress) then.met then.stored)
    (sym (c.in_ok-made.ensures.made cluster me h now r)) (c.in_ok-made.ensures.state cluster me h now r)

pub returns-clause-work : goal.returns-clause-work
returns-clause-work g c cluster me h now r is = c.in_ok-completes.ensures now is ∙ ap work_of (sym (c.in_ok-made.ensures.made cluster me h now r))
