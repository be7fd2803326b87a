use Rattle.mega_member_laws.proofs.Steps.{crash_within, first_started, started}
use Rattle.mega_member_laws.proofs.laws.starts_stay_within.Goals as goal

pub returns-clause-begins : goal.returns-clause-begins
returns-clause-begins c = started

pub returns-clause-first : goal.returns-clause-first
returns-clause-first c = first_started

pub returns-clause-crashes : goal.returns-clause-crashes
returns-clause-crashes c = crash_within
