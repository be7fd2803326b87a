use Rattle.mega_replica.proofs.Joined.{follows_nothing}
use Rattle.mega_replica.proofs.rows.StoredRows.new.Goals as goal

pub returns-clause-follows : goal.returns-clause-follows
returns-clause-follows g c = λ log none. follows_nothing (g.V.Versions.version c.args.rows) c.new.result log c.new.ensures.empty none
