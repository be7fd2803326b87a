use Rattle.std.proofs.Common.{Err, ap, ◌∙◌, sym, subst}
use Rattle.mega_core.specs.Faults.{of_store}
use Rattle.mega_core.specs.of_node_events.declared.fault.StepFault.{StepFault}
use Rattle.mega_durable.specs.declared.fault.UpFault.TheVariants.{Step as Failed}
use Rattle.mega_durable.specs.Spilling.{SpillUsed}
use Rattle.mega_durable.proofs.AfterSpill.{bad_of, failed_same, used_told, full_of, keeps_up, still_up}
use Rattle.mega_durable.proofs.up.Up.spill.Goals as goal

pub returns-in-Ok-clause-state : goal.returns-in-Ok-clause-state
returns-in-Ok-clause-state g c = λ told whole h node up.
    still_up g.R.Records g.V.Versions.version h c.args.self.now.node c.spilled.new.rows node (c.in-Ok.ensures.same told whole) c.in-Ok.ensures.progress up

pub returns-in-Err-clause-state : goal.returns-in-Err-clause-state
returns-in-Err-clause-state g c = λ told whole h node up.
    still_up g.R.Records g.V.Versions.version h c.args.self.now.node c.spilled.new.rows node (c.in-Err.ensures.same told whole) c.in-Err.ensures.progress up

pub returns-in-Ok-clause-spilled : goal.returns-in-Ok-clause-spilled
returns-in-Ok-clause-spilled g c = λ full h node up. c.in-Ok.ensures.spilled full node.met node.stored (keeps_up g.R.Records g.V.Versions.version h c.args.self.now.node node up)

pub returns-in-Ok-clause-cut : goal.returns-in-Ok-clause-cut
returns-in-Ok-clause-cut g c = λ told h node up. c.in-Ok.ensures.cut told node.met node.stored (keeps_up g.R.Records g.V.Versions.version h c.args.self.now.node node up)

pub returns-in-Err-clause-cut : goal.returns-in-Err-clause-cut
returns-in-Err-clause-cut g c = λ told h node up. c.in-Err.ensures.cut told node.met node.stored (keeps_up g.R.Records g.V.Versions.version h c.args.self.now.node node up)

pub returns-in-Err-clause-only : goal.returns-in-Err-clause-only
returns-in-Err-clause-only g c = (c.in-Err.error, ap Failed c.step_fault.ensures)

pub returns-in-Err-clause-full : goal.returns-in-Err-clause-full
returns-in-Err-clause-full g c = λ n is h node up.
    c.in-Err.ensures.full n (ap Err (full_of c.in-Err.error n (sym c.step_fault.ensures ∙ failed_same is))) node.met node.stored (keeps_up g.R.Records g.V.Versions.version h c.args.self.now.node node up)

pub returns-in-Err-clause-bad : goal.returns-in-Err-clause-bad
returns-in-Err-clause-bad g c = λ n is. c.in-Err.ensures.bad n (ap Err (bad_of c.in-Err.error n (sym c.step_fault.ensures ∙ failed_same is)))

pub returns-in-Err-clause-used : goal.returns-in-Err-clause-used
returns-in-Err-clause-used g c =
    let old = c.args.self.now.node.replica.rows.rows in
    let new = c.spilled.new.rows.rows in
    subst (λ (fault : StepFault). SpillUsed g.V.Versions (of_store fault) old new) (sym c.step_fault.ensures) (used_told g.V.Versions c.in-Err.error old new c.in-Err.ensures.used)
