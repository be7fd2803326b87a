use Rattle.mega_tape_laws.proofs.Answered.{read_at, serial}
use Rattle.mega_run_laws.proofs.Runs.{run_answered}
use Rattle.mega_run_laws.proofs.laws.runs_answer.Goals as goal

pub returns-clause-answered : goal.returns-clause-answered
returns-clause-answered c = run_answered

pub returns-clause-serial : goal.returns-clause-serial
returns-clause-serial c = λ cluster usage first events tape run fits. serial cluster usage tape (run_answered cluster usage first events tape run fits)

pub returns-clause-reads : goal.returns-clause-reads
returns-clause-reads c = λ cluster usage first events tape run fits. read_at cluster usage tape (run_answered cluster usage first events tape run fits)
