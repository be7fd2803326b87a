use Rattle.mega_tape_laws.proofs.Fitting.{change_fits, changes_fit, none_fit}
use Rattle.mega_tape_laws.proofs.growing.changes_keep_rows_fit.Goals as goal

pub returns-clause-none : goal.returns-clause-none
returns-clause-none c = none_fit

pub returns-clause-one : goal.returns-clause-one
returns-clause-one c = λ s group rows i change writes declared fit h. change_fits s declared group rows fit i change writes h

pub returns-clause-all : goal.returns-clause-all
returns-clause-all c = λ s group rows i changes writes declared fit h. changes_fit s declared group rows fit i changes writes h
