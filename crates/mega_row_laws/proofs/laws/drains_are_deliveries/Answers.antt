use Rattle.mega_row_laws.proofs.Draining.{drain_goes_on, next_allowed}
use Rattle.mega_row_laws.proofs.laws.drains_are_deliveries.Goals as goal

pub returns-clause-allowed : goal.returns-clause-allowed
returns-clause-allowed c = next_allowed

pub returns-clause-onward : goal.returns-clause-onward
returns-clause-onward c = drain_goes_on
