use Rattle.mega_row_laws.proofs.Steps.{begin_owns, take_owns, tick_owns}
use Rattle.mega_row_laws.proofs.laws.steps_act_on_own_rows.Goals as goal

pub returns-clause-ticks : goal.returns-clause-ticks
returns-clause-ticks c = λ cluster usage first cuts events handlers node clock declared fits meant allowed.
    tick_owns cluster usage declared first cuts events fits handlers node clock meant allowed

pub returns-clause-takes : goal.returns-clause-takes
returns-clause-takes c = λ cluster usage first cuts events handlers number message declared fits meant allowed is.
    take_owns cluster usage declared first cuts events fits handlers number message meant allowed is

pub returns-clause-begins : goal.returns-clause-begins
returns-clause-begins c = λ cluster usage first cuts events handlers node request text declared fits meant allowed.
    begin_owns cluster usage declared first cuts events fits handlers node request text meant allowed
