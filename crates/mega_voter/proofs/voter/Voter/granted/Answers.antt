use Rattle.mega_voter.proofs.KeptTells.{granted_told}
use Rattle.mega_voter.proofs.voter.Voter.granted.Goals as goal

pub returns : goal.returns
returns g c = granted_told c.args.self.now.logs.kept c.granted.result c.args.node.0 c.granted.ensures
