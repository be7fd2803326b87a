use Rattle.std.proofs.Common.{Err, ap}
use Rattle.picture.proofs.run.run.Goals as goal

pub returns-in-Err-Refused-clause-kept : goal.returns-in-Err-Refused-clause-kept
returns-in-Err-Refused-clause-kept g c is = (c.in-Err-Refused.ensures.refused c.in-Err-Refused.refusal (ap Err c.in-Err-Refused.field-0-is)).1
