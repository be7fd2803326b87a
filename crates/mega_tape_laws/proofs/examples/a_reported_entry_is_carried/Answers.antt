use Rattle.mega_tape_laws.proofs.PassedOver.{not_passed_over}
use Rattle.mega_tape_laws.proofs.examples.a_reported_entry_is_carried.Goals as goal

pub returns : goal.returns
returns c = not_passed_over
