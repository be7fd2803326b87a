use Rattle.mega_voter.proofs.KeptTells.{prefix_told}
use Rattle.mega_voter.proofs.voter.Voter.prefix.Goals as goal

pub returns : goal.returns
returns g c = prefix_told c.args.self.now.logs.kept c.prefix.result.0 c.args.group.now c.prefix.ensures
