use Rattle.mega_format_laws.proofs.Rounds.{asks_formed, completes_formed, due_formed, settled_formed, takes_formed}
use Rattle.mega_format_laws.proofs.laws.rounds_are_of_the_format.Goals as goal

pub returns-clause-asks : goal.returns-clause-asks
returns-clause-asks c = asks_formed

pub returns-clause-completes : goal.returns-clause-completes
returns-clause-completes c = completes_formed

pub returns-clause-takes : goal.returns-clause-takes
returns-clause-takes c = takes_formed

pub returns-clause-due : goal.returns-clause-due
returns-clause-due c = due_formed

pub returns-clause-settles : goal.returns-clause-settles
returns-clause-settles c = settled_formed
