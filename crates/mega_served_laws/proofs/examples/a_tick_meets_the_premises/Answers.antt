use Rattle.mega_served_laws.proofs.Called.{tick_of_nine, tick_runs}
use Rattle.mega_served_laws.proofs.examples.a_tick_meets_the_premises.Goals as goal

pub returns-clause-run : goal.returns-clause-run
returns-clause-run c = tick_runs

pub returns-clause-nine : goal.returns-clause-nine
returns-clause-nine c = tick_of_nine
