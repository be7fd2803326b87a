use Rattle.mega_run_laws.proofs.Fates.{fate_is, fate_may, unfused_whole}
use Rattle.mega_run_laws.proofs.laws.fates_may_become.Goals as goal

pub returns-clause-allowed : goal.returns-clause-allowed
returns-clause-allowed c = fate_may

pub returns-clause-all : goal.returns-clause-all
returns-clause-all c = fate_is

pub returns-clause-whole : goal.returns-clause-whole
returns-clause-whole c = unfused_whole
