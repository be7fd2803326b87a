use Rattle.mega_voter.proofs.Holding.{holds_flushed}
use Rattle.mega_voter.proofs.voter.Voter.flush.Goals as goal

pub returns-in-Ok-clause-holds : goal.returns-in-Ok-clause-holds
returns-in-Ok-clause-holds g c = λ told.
    holds_flushed (g.R.Records.list c.args.self.now.logs.records) (g.R.Records.list c.flush.new.self.records) c.args.self.now.logs.staged.items c.requires.each c.requires.few (c.in-Ok.ensures.added told)
