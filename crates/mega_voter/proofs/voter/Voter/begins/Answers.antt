use Rattle.mega_voter.proofs.Begun.{begun_recalled}
use Rattle.mega_voter.proofs.voter.Voter.begins.Goals as goal

pub returns-clause-counted : goal.returns-clause-counted
returns-clause-counted g c = begun_recalled c.args.self.now.logs.kept c.begin.new.self.kept c.requires c.in_ok-begin.ensures.state
