use Rattle.mega_replica.specs.Following.{progress_at}
use Rattle.mega_step_work.specs.Completed.{stored_through}
use Rattle.mega_step_work.specs.Settings.{setting}
use Rattle.mega_answers.proofs.Standing.{completed_stands}
use Rattle.mega_answers.proofs.completing.completes_read.Goals as goal

pub returns-clause-made : goal.returns-clause-made
returns-clause-made g c cluster me h now r = c.in_ok-made.ensures.made cluster me h (stored_through now c.args.group.now c.args.position) r.leased

pub returns-clause-state : goal.returns-clause-state
returns-clause-state g c cluster me h now r =
    let version = g.V.Versions.version in
    let rows = c.args.rows.now in
    let stored = c.stores_through.new.rows in
    completed_stands (setting cluster me h) c.args.voter.now.logs.kept c.args.leases.now c.validates.new.leases (version rows.rows) (version stored.rows) (progress_at rows.progress) (progress_at stored.progress) now c.args.group.now
    c.args.position c.in_ok-made.made r (c.in_ok-stores_through.ensures.state now r.tells r.follows)
    (c.in_ok-made.ensures.state cluster me (stored_through now c.args.group.now c.args.position) r.leased)
