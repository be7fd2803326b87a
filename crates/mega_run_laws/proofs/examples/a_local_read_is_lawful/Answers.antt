use Rattle.std.proofs.Common.{[], refl}
use Rattle.mega_tape_laws.specs.of_promises.Runs.{Whole}
use Rattle.mega_tape_laws.specs.of_rules.Examples.{cluster}
use Rattle.mega_run_laws.specs.Examples.{stands_after, then_reads}
use Rattle.mega_run_laws.proofs.Runs.{run_lawful}
use Rattle.mega_run_laws.proofs.examples.a_local_read_is_lawful.Goals as goal

pub returns-clause-lawful : goal.returns-clause-lawful
returns-clause-lawful c = run_lawful cluster [] then_reads (stands_after then_reads).tape (record { cuts = λ now me calls. Whole; tape_is = refl })
