use Rattle.mega_voter.proofs.Begun.{start_goes_on}
use Rattle.mega_voter.proofs.laws.a_start_goes_on.Goals as goal

pub returns : goal.returns
returns c = start_goes_on
