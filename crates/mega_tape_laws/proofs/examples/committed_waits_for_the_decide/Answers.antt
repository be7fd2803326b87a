use Rattle.mega_tape_laws.proofs.Rivals.{not_told}
use Rattle.mega_tape_laws.proofs.examples.committed_waits_for_the_decide.Goals as goal

pub returns : goal.returns
returns c = not_told
