use Rattle.mega_tape_laws.proofs.Unlawful.{not_too_few}
use Rattle.mega_tape_laws.proofs.examples.one_of_three_is_too_few.Goals as goal

pub returns : goal.returns
returns c = not_too_few
