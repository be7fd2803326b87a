use Rattle.std.proofs.Common.{refl}
use Rattle.mega_queues.proofs.HaveEntries.{all_applied}
use Rattle.mega_queues.proofs.laws.pumps_pick_among_applied_logs.Goals as goal

pub returns-clause-logs : goal.returns-clause-logs
returns-clause-logs c = λ now. refl

pub returns-clause-all : goal.returns-clause-all
returns-clause-all c = all_applied
