use Rattle.mega_voter.proofs.KeptTells.{groups_told}
use Rattle.mega_voter.proofs.voter.Voter.groups.Goals as goal

pub returns : goal.returns
returns g c = groups_told c.args.self.now.logs.kept c.in_ok-found.found.items c.in_ok-found.ensures
