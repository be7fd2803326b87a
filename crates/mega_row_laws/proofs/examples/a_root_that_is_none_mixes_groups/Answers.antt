use Rattle.mega_row_laws.proofs.Mixing.{photo_names, tag_writes, undeclared}
use Rattle.mega_row_laws.proofs.examples.a_root_that_is_none_mixes_groups.Goals as goal

pub returns-clause-names : goal.returns-clause-names
returns-clause-names c = photo_names

pub returns-clause-writes : goal.returns-clause-writes
returns-clause-writes c = tag_writes

pub returns-clause-undeclared : goal.returns-clause-undeclared
returns-clause-undeclared c = undeclared
