use Rattle.std.proofs.Common.{None, rules}
use Rattle.mega_rules.specs.Acting.{completes_read}
use Rattle.mega_answers.proofs.of_node_laws.Completed.{completed_applied}
use Rattle.mega_answers.specs.Faults.{failed_by}
use Rattle.mega_answers.specs.of_step_work.Settings.{setting}
use Rattle.mega_actions.specs.Leaves.{Leaves}
use Rattle.mega_actions.proofs.Leaving.{leaves_after}
use Rattle.mega_actions.proofs.replica.Replica.completes.Goals as goal

pub returns-clause-acted : goal.returns-clause-acted
returns-clause-acted g c h now told means of le at =
    let before = c.args.self.now in
    let s = setting before.members before.me h in
    let reached = c.args.reached in
    let then = completes_read s now reached.group reached.reading reached.position in
    let after = c.in-Ok.ensures.state before.members before.me h now at.stands in
    let goes = c.in_ok-next.ensures.acted h then told means of (completed_applied s now reached.group reached.reading reached.position le) (record { stands = after; noted = at.noted }) in
    record {
      after = goes.after;
      stands = goes.stands;
      work = λ was. goes.work (c.in-Ok.ensures.work before.members before.me h now at.stands was);
      about = goes.about;
      leads = goes.leads;
    }

pub returns-in_err-next-clause-leaves : goal.returns-in_err-next-clause-leaves
returns-in_err-next-clause-leaves g c =
    let before = c.args.self.now in
    let new = c.goes_by.new in
    let meant = g.H.QueueHandlers.meant in
    let rest : Leaves g.V.Versions (failed_by c.from_residual.result) (meant c.args.handlers.now) (meant new.handlers) (record before { leases = c.reads_through.new.leases; rows = c.reads_through.new.rows }) new.self = search rules in
    leaves_after g.V.Versions (failed_by c.from_residual.result) (meant c.args.handlers.now) (meant new.handlers) before c.reads_through.new.leases c.reads_through.new.rows new.self c.in-Ok.ensures.used rest

pub returns-clause-leaves : goal.returns-clause-leaves
returns-clause-leaves g c =
    let meant = g.H.QueueHandlers.meant in
    leaves_after g.V.Versions None (meant c.args.handlers.now) (meant c.goes_by.new.handlers) c.args.self.now c.reads_through.new.leases c.reads_through.new.rows c.goes_by.new.self c.in-Ok.ensures.used c.in_ok-next.ensures.leaves
