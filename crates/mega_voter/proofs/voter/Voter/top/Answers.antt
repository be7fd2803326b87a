use Rattle.mega_voter.proofs.KeptTells.{top_told}
use Rattle.mega_voter.proofs.voter.Voter.top.Goals as goal

pub returns : goal.returns
returns g c = top_told c.args.self.now.logs.kept c.top.result.0 c.args.group.now c.top.ensures
