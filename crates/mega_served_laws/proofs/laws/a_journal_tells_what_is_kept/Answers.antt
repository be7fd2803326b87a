use Rattle.mega_served_laws.proofs.Journals.{say_kept}
use Rattle.mega_served_laws.proofs.Keeping.{step_kept}
use Rattle.mega_served_laws.proofs.Serving.{compacted_says}
use Rattle.mega_served_laws.proofs.laws.a_journal_tells_what_is_kept.Goals as goal

pub returns-clause-steps : goal.returns-clause-steps
returns-clause-steps c = step_kept

pub returns-clause-same : goal.returns-clause-same
returns-clause-same c = say_kept

pub returns-clause-compacted : goal.returns-clause-compacted
returns-clause-compacted c = compacted_says
