use Rattle.std.proofs.Common.{subst}
use Rattle.mega_disk.specs.VersionMaps.{Versions}
use Rattle.mega_outcome.specs.Outcome.{outcome}
use Rattle.mega_outcome.specs.Answers.{Gives, rows_at}
use Rattle.mega_outcome.proofs.GrownChanges.{outcome_same, both_same, same_rows}
use Rattle.mega_outcome.proofs.extending.extends_outcome.Goals as goal

pub returns-clause-second : goal.returns-clause-second
returns-clause-second g c = λ told.
    subst (λ (v : Versions). Gives c.run-second.result (outcome c.args.extended.now c.args.txn.now (rows_at v c.args.at.0)))
    (same_rows (g.V.Versions.version c.args.rows.now) (g.V.Versions.version c.run-first.new.rows) c.run-first.ensures.versions) (c.run-second.ensures.exact told)

pub returns-clause-same : goal.returns-clause-same
returns-clause-same g c = λ told.
    let rows = rows_at (g.V.Versions.version c.args.rows.now) c.args.at.0 in
    let txn = c.args.txn.now in
    both_same c.run-first.result c.run-second.result (outcome c.args.schema.now txn rows) (outcome c.args.extended.now txn rows)
    (c.run-first.ensures.exact told)
    (subst (λ (v : Versions). Gives c.run-second.result (outcome c.args.extended.now txn (rows_at v c.args.at.0)))
    (same_rows (g.V.Versions.version c.args.rows.now) (g.V.Versions.version c.run-first.new.rows) c.run-first.ensures.versions) (c.run-second.ensures.exact told))
    (λ done taken. outcome_same c.args.schema.now c.args.extended.now txn.group.key txn rows done c.requires.extends (c.requires.known told) taken)
