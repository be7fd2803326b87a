use Rattle.mega_handled_laws.proofs.Handled.{run_handles}
use Rattle.mega_handled_laws.proofs.laws.messages_are_handled_as_in_their_step.Goals as goal

pub returns : goal.returns
returns c = run_handles
