use Rattle.std.proofs.Common.{refl}
use Rattle.mega_queues.proofs.Mailing.{with_entry_is}
use Rattle.mega_queues.proofs.laws.mailboxes_follow_logs.Goals as goal

pub returns-clause-begun : goal.returns-clause-begun
returns-clause-begun c = refl

pub returns-clause-grown : goal.returns-clause-grown
returns-clause-grown c = with_entry_is
