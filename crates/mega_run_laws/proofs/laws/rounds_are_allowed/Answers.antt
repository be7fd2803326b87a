use Rattle.mega_run_laws.proofs.Rounds.{due_goes, settled_chosen, takes_goes}
use Rattle.mega_run_laws.proofs.laws.rounds_are_allowed.Goals as goal

pub returns-clause-takes : goal.returns-clause-takes
returns-clause-takes c = takes_goes

pub returns-clause-due : goal.returns-clause-due
returns-clause-due c = due_goes

pub returns-clause-settles : goal.returns-clause-settles
returns-clause-settles c = λ cluster tape op p proposal entry v h. settled_chosen cluster tape op p proposal entry v.knows h
