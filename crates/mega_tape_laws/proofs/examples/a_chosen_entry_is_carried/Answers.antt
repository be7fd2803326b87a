use Rattle.mega_tape_laws.proofs.Unlawful.{not_kept_own}
use Rattle.mega_tape_laws.proofs.examples.a_chosen_entry_is_carried.Goals as goal

pub returns : goal.returns
returns c = not_kept_own
