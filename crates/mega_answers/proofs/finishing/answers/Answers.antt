use Rattle.std.proofs.Common.{◌∙◌, sym, subst, ap}
use Rattle.mega_cluster.specs.declared.cluster.Cluster.{Cluster}
use Rattle.mega_rules.specs.Acting.{Rests, listed_at, rows_at}
use Rattle.mega_answers.specs.Sees.{Sees}
use Rattle.mega_step_work.specs.Settings.{setting}
use Rattle.mega_answers.proofs.Going.{answers_by}
use Rattle.mega_answers.proofs.finishing.answers.Goals as goal

pub returns-in-Ok-clause-action : goal.returns-in-Ok-clause-action
returns-in-Ok-clause-action g c told me h now sees of =
    let reached = c.args.reached in
    let kept = reached.kept in
    let seen : Sees c.cluster.result.now.schema (g.V.Versions.version c.args.rows.now) reached.group reached.position now = subst (λ (cluster : Cluster). Sees cluster.schema (g.V.Versions.version c.args.rows.now) reached.group reached.position now) (sym c.cluster.ensures) sees in
    ap Rests (c.ends.ensures now)
    ∙ sym (answers_by (setting c.args.members.now me h) now reached.group reached.reading reached.position kept.id kept.began kept.visited kept.message kept.request c.in-Ok.answer
    (c.in-Ok.ensures.exact told (setting c.args.members.now me h) reached.group (rows_at now reached.group reached.position) (listed_at now reached.group reached.position)
    (sym (ap (λ (cluster : Cluster). cluster.schema) c.cluster.ensures)) seen.small of seen.alone seen.shows))
