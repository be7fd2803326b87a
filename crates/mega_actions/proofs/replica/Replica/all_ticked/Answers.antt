use Rattle.std.proofs.Common.{◌∙◌, fold, None, ap, subst, rules}
use Rattle.std.proofs.lemmas.List.Elements.{All-rest}
use Rattle.std.specs.Vec.Iter.{into_iter_items}
use Rattle.mega_answers.specs.of_node_laws.About.{IsAbout}
use Rattle.mega_meanings.proofs.Lasting.{means_still}
use Rattle.mega_rules.specs.Operations.{Now, Setting}
use Rattle.mega_rules.specs.Steps.{ticked}
use Rattle.mega_answers.specs.Faults.{failed_by}
use Rattle.mega_actions.specs.IsAt.{IsAt}
use Rattle.mega_actions.specs.Leaves.{Leaves}
use Rattle.mega_answers.specs.of_step_work.Settings.{setting}
use Rattle.mega_actions.specs.Turns.{IsServable}
use Rattle.mega_answers.specs.of_step_work.Working.{work_of}
use Rattle.mega_actions.proofs.InTurn.{all_before, goes_next, of_last}
use Rattle.mega_actions.proofs.Leaving.{leaves_then}
use Rattle.mega_actions.proofs.replica.Replica.all_ticked.Goals as goal

pub loop-operation-preserved : goal.loop-operation-preserved
loop-operation-preserved g c =
    let loop = c.loop-operation in
    let before = c.args.self.now in
    let new = c.ticked.new.self in
    let one = c.in-Some.operation in
    let meant = g.H.QueueHandlers.meant in
    record {
      state = λ h now told means all stands.
          let s = setting before.members before.me h in
          subst (λ (then : Now). IsAt g.V.Versions.version h new then.met then.stored)
          (goes_next (λ (t : Setting). ticked t c.args.clock) s (setting loop.self.members loop.self.me h) now loop.yielded one (λ i. setting (loop.invariant.leaves.members i) (loop.invariant.leaves.me i) h))
          (c.in_ok-ticked.ensures.state h (fold (ticked s c.args.clock) now loop.yielded) told (means_still _ _ h loop.invariant.leaves.handlers means) (of_last IsAbout loop.yielded one all) (loop.invariant.state h now told means (all_before IsAbout loop.yielded one all) stands));
      work = λ h now told means all stands same.
          let s = setting before.members before.me h in
          c.in_ok-ticked.ensures.work h (fold (ticked s c.args.clock) now loop.yielded) told (means_still _ _ h loop.invariant.leaves.handlers means) (of_last IsAbout loop.yielded one all) (loop.invariant.state h now told means (all_before IsAbout loop.yielded one all) stands)
          (loop.invariant.work h now told means (all_before IsAbout loop.yielded one all) stands same)
          ∙ ap work_of (goes_next (λ (t : Setting). ticked t c.args.clock) s (setting loop.self.members loop.self.me h) now loop.yielded one (λ i. setting (loop.invariant.leaves.members i) (loop.invariant.leaves.me i) h));
      leaves = leaves_then g.V.Versions None (meant c.args.handlers.now) (meant loop.handlers) (meant c.ticked.new.handlers) before loop.self new loop.invariant.leaves c.in_ok-ticked.ensures.leaves;
      built = λ all. All-rest IsServable one (into_iter_items c.next.new.self) (into_iter_items loop.operation-iterator) c.in-Some.ensures.steps.0 (loop.invariant.built all);
    }

pub returns-in_err-ticked-clause-leaves : goal.returns-in_err-ticked-clause-leaves
returns-in_err-ticked-clause-leaves g c =
    let loop = c.loop-operation in
    let new = c.ticked.new in
    let meant = g.H.QueueHandlers.meant in
    let rest : Leaves g.V.Versions (failed_by c.from_residual.result) (meant loop.handlers) (meant new.handlers) loop.self new.self = search rules in
    leaves_then g.V.Versions (failed_by c.from_residual.result) (meant c.args.handlers.now) (meant loop.handlers) (meant new.handlers) c.args.self.now loop.self new.self loop.invariant.leaves rest
