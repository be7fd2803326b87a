use Rattle.std.specs.Prelude.{option_copied}
use Rattle.mega_voter.proofs.KeptTells.{decided_told}
use Rattle.mega_voter.proofs.voter.Voter.decided.Goals as goal

pub returns : goal.returns
returns g c = decided_told c.args.self.now.logs.kept (option_copied c.decided.result) c.args.group.now c.args.position.0 c.decided.ensures
