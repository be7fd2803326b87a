use Rattle.std.proofs.Common.{[], refl}
use Rattle.mega_run_laws.specs.of_tape_laws.Examples.{asks_put}
use Rattle.mega_run_laws.proofs.of_tape_laws.IndexWitnesses.{declared}
use Rattle.mega_run_laws.specs.Usages.{Brought}
use Rattle.mega_row_laws.proofs.examples.a_put_meets_the_premises.Goals as goal

none_there : Brought asks_put []
none_there = record { moment = []; is = refl }

pub returns-clause-declared : goal.returns-clause-declared
returns-clause-declared c = declared

pub returns-clause-fits : goal.returns-clause-fits
returns-clause-fits c = (record { brought = none_there; meant = refl }, (record { brought = none_there; meant = tt }, tt))

pub returns-clause-begins : goal.returns-clause-begins
returns-clause-begins c = refl

pub returns-clause-takes : goal.returns-clause-takes
returns-clause-takes c = refl
