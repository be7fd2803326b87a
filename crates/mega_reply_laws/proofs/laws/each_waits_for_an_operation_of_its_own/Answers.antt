use Rattle.mega_reply_laws.proofs.Serving.{waiting_apart, waiting_open, waiting_requests}
use Rattle.mega_reply_laws.proofs.laws.each_waits_for_an_operation_of_its_own.Goals as goal

pub returns-clause-waits : goal.returns-clause-waits
returns-clause-waits c = waiting_requests

pub returns-clause-open : goal.returns-clause-open
returns-clause-open c = waiting_open

pub returns-clause-apart : goal.returns-clause-apart
returns-clause-apart c = waiting_apart
