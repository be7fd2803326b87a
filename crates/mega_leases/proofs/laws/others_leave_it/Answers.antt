use Rattle.mega_leases.proofs.Shown.{apart}
use Rattle.mega_leases.proofs.laws.others_leave_it.Goals as goal

pub returns : goal.returns
returns c = apart
