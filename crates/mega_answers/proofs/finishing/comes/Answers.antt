use Rattle.std.proofs.Common.{◌≡◌, ◌∙◌, Some, ap, subst, sym}
use Rattle.mega_cluster.specs.declared.cluster.Cluster.{Cluster}
use Rattle.mega_outcome.specs.Answers.{rows_at}
use Rattle.mega_rules.specs.Acting.{Rests}
use Rattle.mega_answers.specs.Coming.{comes}
use Rattle.mega_step_work.specs.Settings.{setting}
use Rattle.mega_answers.proofs.Going.{goes_by, sees_comes}
use Rattle.mega_answers.proofs.finishing.comes.Goals as goal

pub returns-in_ok-action-in-Ok-clause-action : goal.returns-in_ok-action-in-Ok-clause-action
returns-in_ok-action-in-Ok-clause-action g c told me h now tells clock sees of =
    let reached = c.args.reached in
    let kept = reached.kept in
    let schema = c.args.members.now.schema in
    ap Rests (c.in_ok-action-in-Ok.ensures me h now tells clock)
    ∙ sym (goes_by (setting c.args.members.now me h) now reached.group reached.reading reached.position kept.id kept.began kept.visited kept.message kept.request c.in-Ok.came (sym c.is_limit.ensures.exact ∙ c.if-is_limit.false)
    (sym (sees_comes schema (g.V.Versions.version c.args.rows.now) reached.group reached.position now kept.request of sees) ∙ subst (λ (cluster : Cluster). comes cluster.schema kept.request (rows_at (g.V.Versions.version c.args.rows.now) reached.position) ≡ Some c.in-Ok.came) c.cluster.ensures (c.in-Ok.ensures.exact told)))
