use Rattle.std.specs.Prelude.{[]}
use Rattle.mega_own_laws.proofs.Histories.{met_owns}
use Rattle.mega_own_laws.proofs.Steps.{crash_own, start_own}
use Rattle.mega_own_laws.proofs.laws.starts_stay_own.Goals as goal

pub returns-clause-begins : goal.returns-clause-begins
returns-clause-begins c = start_own

pub returns-clause-first : goal.returns-clause-first
returns-clause-first c = λ s number. start_own s number [] [] tt tt

pub returns-clause-crashes : goal.returns-clause-crashes
returns-clause-crashes c = crash_own

pub returns-clause-logs : goal.returns-clause-logs
returns-clause-logs c = met_owns
