use Rattle.mega_voter.proofs.KeptTells.{shown_told}
use Rattle.mega_voter.proofs.voter.Voter.shown.Goals as goal

pub returns : goal.returns
returns g c = shown_told c.args.self.now.logs.kept c.promised.result c.args.group.now c.args.position.0 c.promised.ensures
