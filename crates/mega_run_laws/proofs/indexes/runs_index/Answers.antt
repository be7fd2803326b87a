use Rattle.mega_tape_laws.proofs.IndexLogs.{indexed, rows_fit}
use Rattle.mega_run_laws.proofs.Indexing.{asks_values}
use Rattle.mega_run_laws.proofs.Runs.{run_written}
use Rattle.mega_run_laws.proofs.indexes.runs_index.Goals as goal

pub returns-clause-indexed : goal.returns-clause-indexed
returns-clause-indexed c = λ cluster usage first events tape run fits declared values.
    indexed cluster usage tape (run_written cluster usage first events tape run fits) declared (asks_values usage.meaning values tape)

pub returns-clause-rows : goal.returns-clause-rows
returns-clause-rows c = λ cluster usage first events tape run fits declared values.
    rows_fit cluster usage tape (run_written cluster usage first events tape run fits) declared (asks_values usage.meaning values tape)
