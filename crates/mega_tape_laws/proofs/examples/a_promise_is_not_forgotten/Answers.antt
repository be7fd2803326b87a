use Rattle.mega_tape_laws.proofs.Unlawful.{not_forgotten}
use Rattle.mega_tape_laws.proofs.examples.a_promise_is_not_forgotten.Goals as goal

pub returns : goal.returns
returns c = not_forgotten
