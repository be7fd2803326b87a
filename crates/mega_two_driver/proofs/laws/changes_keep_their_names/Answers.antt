use Rattle.mega_two_driver.proofs.Named.{loses_name, takes_name}
use Rattle.mega_two_driver.proofs.laws.changes_keep_their_names.Goals as goal

pub returns-clause-taken : goal.returns-clause-taken
returns-clause-taken c = takes_name

pub returns-clause-lost : goal.returns-clause-lost
returns-clause-lost c = loses_name
