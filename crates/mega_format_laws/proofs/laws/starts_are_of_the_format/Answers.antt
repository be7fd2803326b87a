use Rattle.mega_format_laws.proofs.Steps.{crash_formed, started}
use Rattle.mega_format_laws.proofs.laws.starts_are_of_the_format.Goals as goal

pub returns-clause-begins : goal.returns-clause-begins
returns-clause-begins c = started

pub returns-clause-crashes : goal.returns-clause-crashes
returns-clause-crashes c = crash_formed
