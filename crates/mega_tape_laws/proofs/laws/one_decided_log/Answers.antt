use Rattle.mega_tape_laws.proofs.Agreement.{agreement}
use Rattle.mega_tape_laws.proofs.laws.one_decided_log.Goals as goal

pub returns : goal.returns
returns c = agreement
