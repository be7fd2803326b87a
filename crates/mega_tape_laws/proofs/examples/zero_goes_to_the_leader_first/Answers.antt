use Rattle.mega_tape_laws.proofs.Unlawful.{not_early}
use Rattle.mega_tape_laws.proofs.examples.zero_goes_to_the_leader_first.Goals as goal

pub returns : goal.returns
returns c = not_early
