use Rattle.mega_replica.specs.Following.{progress_at}
use Rattle.mega_replica.proofs.Growing.{follows_same}
use Rattle.mega_rules.specs.Logs.{log_of}
use Rattle.mega_rules.specs.Steps.{onto}
use Rattle.mega_durable.proofs.down.Down.fuse_rows.Goals as goal

pub returns-clause-state : goal.returns-clause-state
returns-clause-state g c = λ k me starts met owed may. record {
  owes = may.owes;
  recalls = may.recalls;
  ready = may.ready;
  holds = may.holds;
  rows = record {
    stored = may.rows.stored;
    follows = follows_same (g.V.Versions.version c.args.self.now.rows.rows) (g.V.Versions.version c.fuse.new.self) (progress_at c.args.self.now.rows.progress) (log_of (onto owed met)) may.rows.stored c.fuse.ensures.versions may.rows.follows;
    bare = may.rows.bare;
  };
}

pub returns-clause-rows : goal.returns-clause-rows
returns-clause-rows g c = record { versions = c.fuse.ensures.versions; cleaned = c.fuse.ensures.cleaned; marks = c.fuse.ensures.marks; full = c.fuse.ensures.full; same = c.fuse.ensures.same; faults = c.fuse.ensures.faults; bad_stays = c.fuse.ensures.bad_stays; fuse = c.fuse.ensures.fuse; by_fuse = c.fuse.ensures.by_fuse }
