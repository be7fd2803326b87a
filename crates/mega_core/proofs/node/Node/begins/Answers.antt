use Rattle.std.proofs.Common.{◌≡◌, ◌∙◌, List, [], ap, sym}
use Rattle.mega_cluster.specs.declared.cluster.Cluster.{Cluster}
use Rattle.mega_rules.specs.Members.{kind_of}
use Rattle.mega_rules.specs.Operations.{Operation}
use Rattle.mega_rules.specs.Steps.{at_first, at_open, missing_kind}
use Rattle.mega_replica.specs.Following.{progress_at}
use Rattle.mega_actions.specs.of_step_work.Settings.{setting}
use Rattle.mega_actions.specs.of_step_work.Working.{work_of}
use Rattle.mega_core.proofs.Begun.{begun_acts}
use Rattle.mega_core.proofs.node.Node.begins.Goals as goal

pub returns-clause-acted : goal.returns-clause-acted
returns-clause-acted g c = λ told h node text means represents owned.
    let old = c.args.self.now.replica in
    let new = c.unless_refused.new.replica in
    let s = setting old.members old.me h in
    let says = c.in_ok-unless_refused.ensures in
    let opened = c.as_slice.ensures in
    let missing_is = c.missing_kind-missing.ensures ∙ ap (missing_kind c.args.request) (c.kind_of-kind.ensures ∙ ap (λ (one : Cluster). kind_of one old.me) c.cluster.ensures) in
    let t_is : setting new.members new.me h ≡ s = (λ i. setting (says.leaves.members i) (says.leaves.me i) h) in
    begun_acts s node c.args.request text old.voter.logs.kept new.voter.logs.kept old.leases new.leases (g.V.Versions.version old.rows.rows) (g.V.Versions.version new.rows.rows)
    (progress_at old.rows.progress) (progress_at new.rows.progress) c.args.self.now.open c.args.self.now.begun (setting new.members new.me h)
    c.next_op-op.result c.refusal-refusal.result c.at_open-work.result c.unless_refused.new.work represents owned t_is
    (λ i. (says.leaves.voter i).logs.kept)
    (c.next_op-op.ensures old.members h node.met represents.tells represents.begun_is)
    (c.refusal-refusal.ensures old.members old.me h node c.args.request missing_is (represents.opened ∙ sym opened) represents.begun_is)
    (c.at_open-work.ensures [] node.stored ∙ ap (λ (kept : List Operation). work_of (at_open (at_first [] node.stored) kept)) (c.replace-open.ensures.value ∙ sym represents.opened))
    says.built (λ now. says.state h now told means) (λ now. says.work h now told means) (λ now. says.indexed h now told)

pub returns-clause-built : goal.returns-clause-built
returns-clause-built g c = λ h node represents none.
    let old = c.args.self.now.replica in
    let missing_is = c.missing_kind-missing.ensures ∙ ap (missing_kind c.args.request) (c.kind_of-kind.ensures ∙ ap (λ (one : Cluster). kind_of one old.me) c.cluster.ensures) in
    c.in_ok-unless_refused.ensures.built
    (c.refusal-refusal.ensures old.members old.me h node c.args.request missing_is (represents.opened ∙ sym c.as_slice.ensures) represents.begun_is ∙ none)
