use Rattle.mega_tape_laws.proofs.IndexLogs.{indexed, rows_fit}
use Rattle.mega_tape_laws.proofs.indexes.index_rows_are_those_of_the_tables.Goals as goal

pub returns-clause-indexed : goal.returns-clause-indexed
returns-clause-indexed c = indexed

pub returns-clause-rows : goal.returns-clause-rows
returns-clause-rows c = rows_fit
