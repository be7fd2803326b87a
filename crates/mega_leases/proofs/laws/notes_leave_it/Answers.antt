use Rattle.mega_leases.proofs.Shown.{all_shown}
use Rattle.mega_leases.proofs.laws.notes_leave_it.Goals as goal

pub returns : goal.returns
returns c = all_shown
