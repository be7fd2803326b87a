use Rattle.std.proofs.Common.{◌∙◌, ap, sym}
use Rattle.mega_cluster.specs.declared.cluster.Cluster.{Cluster}
use Rattle.mega_rules.specs.Members.{has_rows}
use Rattle.mega_rules.specs.Steps.{decision_note, onto}
use Rattle.mega_replica.specs.Following.{progress_at}
use Rattle.mega_actions.proofs.of_node_laws.Followed.{follows_after}
use Rattle.mega_actions.specs.of_step_work.Settings.{setting}
use Rattle.mega_node_events.proofs.taking.decides_by.Goals as goal

pub returns-clause-follows : goal.returns-clause-follows
returns-clause-follows g c = λ h met stored bare placed tells follows.
    let r = c.args.replica.now in
    let d = c.in_ok-found-2.found in
    let keeps = c.has_rows-keeps.ensures ∙ ap (λ (one : Cluster). has_rows one r.me) c.cluster.ensures in
    c.in_ok-stores.ensures.follows (setting r.members r.me h) (onto (decision_note d) met) stored keeps (λ none. bare (sym keeps ∙ none))
    (sym (c.from-most.ensures ∙ ap (λ (one : Cluster). one.apply) c.cluster-2.ensures))
    (c.in_ok-found-2.ensures.state met placed tells)
    (follows_after (g.V.Versions.version r.rows.rows) (progress_at r.rows.progress) (decision_note d) met stored follows)
