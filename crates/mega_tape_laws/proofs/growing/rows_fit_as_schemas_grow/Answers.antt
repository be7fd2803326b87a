use Rattle.mega_tape_laws.proofs.GrownRows.{grown_declared, grown_fit}
use Rattle.mega_tape_laws.proofs.growing.rows_fit_as_schemas_grow.Goals as goal

pub returns-clause-declared : goal.returns-clause-declared
returns-clause-declared c = grown_declared

pub returns-clause-rows : goal.returns-clause-rows
returns-clause-rows c = grown_fit
