use Rattle.mega_reply_laws.proofs.Steps.{step_fates}
use Rattle.mega_reply_laws.proofs.laws.each_operation_stays_open_or_is_answered.Goals as goal

pub returns : goal.returns
returns c = step_fates
