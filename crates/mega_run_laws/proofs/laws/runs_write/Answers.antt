use Rattle.mega_tape_laws.proofs.Serial.{id_once, serial_entries}
use Rattle.mega_run_laws.proofs.Runs.{run_written}
use Rattle.mega_run_laws.proofs.laws.runs_write.Goals as goal

pub returns-clause-written : goal.returns-clause-written
returns-clause-written c = run_written

pub returns-clause-entries : goal.returns-clause-entries
returns-clause-entries c = λ cluster usage first events tape run fits. serial_entries cluster usage tape (run_written cluster usage first events tape run fits)

pub returns-clause-once : goal.returns-clause-once
returns-clause-once c = λ cluster usage first events tape run fits. id_once cluster usage tape (run_written cluster usage first events tape run fits)
