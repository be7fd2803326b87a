use Rattle.mega_tape_laws.proofs.Settling.{not_believed}
use Rattle.mega_tape_laws.proofs.examples.an_earlier_answer_covers_nothing.Goals as goal

pub returns : goal.returns
returns c = not_believed
