use Rattle.mega_voter.proofs.KeptTells.{newest_told}
use Rattle.mega_voter.proofs.voter.Voter.newest.Goals as goal

pub returns : goal.returns
returns g c = newest_told c.args.self.now.logs.kept c.newest.result.0 c.args.group.now c.newest.ensures
