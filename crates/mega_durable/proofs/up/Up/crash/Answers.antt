use Rattle.std.proofs.Common.{◌∙◌}
use Rattle.mega_rules.specs.Clock.{start_of}
use Rattle.mega_replica.specs.Following.{progress_at}
use Rattle.mega_voter.proofs.Holding.{told_recalled}
use Rattle.mega_durable.specs.Standing.{records_in}
use Rattle.mega_durable.proofs.Fallen.{crash_followed, crash_held, crash_recalled}
use Rattle.mega_durable.proofs.up.Up.crash.Goals as goal

pub returns-clause-may : goal.returns-clause-may
returns-clause-may g c = λ h node is.
    let one = c.args.self.node in
    let rows = one.replica.rows in
    record {
      owes = tt;
      recalls = crash_recalled one.replica.voter.logs.kept (start_of node.met) node.met (told_recalled one.replica.voter.logs.kept node.met is.stands.within.tells);
      ready = is.ready;
      holds = λ told. crash_held (g.R.Records.list (records_in one)) (start_of node.met) node.met (is.holds told);
      rows = crash_followed one.replica.members one.replica.me (g.V.Versions.version rows.rows) (progress_at rows.progress) node.met node.stored is.stands.within.follows is.stands.within.kind.bare;
    }
