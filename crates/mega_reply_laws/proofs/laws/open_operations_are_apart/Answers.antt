use Rattle.mega_reply_laws.proofs.Serving.{new_is_none, open_apart}
use Rattle.mega_reply_laws.proofs.laws.open_operations_are_apart.Goals as goal

pub returns-clause-apart : goal.returns-clause-apart
returns-clause-apart c = open_apart

pub returns-clause-new : goal.returns-clause-new
returns-clause-new c = new_is_none
