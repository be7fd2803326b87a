use Rattle.mega_tape_laws.proofs.Settling.{not_settled}
use Rattle.mega_tape_laws.proofs.examples.an_uncovered_node_is_waited_for.Goals as goal

pub returns : goal.returns
returns c = not_settled
