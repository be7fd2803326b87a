use Rattle.mega_format_laws.proofs.Reading.{falls_due_formed, first_formed, hears_formed, local_formed, polled_formed, read_settled_formed, seeks_formed}
use Rattle.mega_format_laws.proofs.laws.reads_are_of_the_format.Goals as goal

pub returns-clause-first : goal.returns-clause-first
returns-clause-first c = first_formed

pub returns-clause-local_one : goal.returns-clause-local_one
returns-clause-local_one c = local_formed

pub returns-clause-polled : goal.returns-clause-polled
returns-clause-polled c = polled_formed

pub returns-clause-hears : goal.returns-clause-hears
returns-clause-hears c = hears_formed

pub returns-clause-due : goal.returns-clause-due
returns-clause-due c = falls_due_formed

pub returns-clause-seeks : goal.returns-clause-seeks
returns-clause-seeks c = seeks_formed

pub returns-clause-settles : goal.returns-clause-settles
returns-clause-settles c = read_settled_formed
