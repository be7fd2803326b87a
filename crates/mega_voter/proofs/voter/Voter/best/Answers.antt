use Rattle.std.specs.Prelude.{option_copied}
use Rattle.mega_voter.proofs.KeptTells.{best_told}
use Rattle.mega_voter.proofs.voter.Voter.best.Goals as goal

pub returns : goal.returns
returns g c = best_told c.args.self.now.logs.kept (option_copied c.accepted.result) c.args.group.now c.args.position.0 c.accepted.ensures
