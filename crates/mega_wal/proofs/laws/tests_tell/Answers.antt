use Rattle.mega_acceptor.proofs.of_entry.Sames.{same_entry_iff, same_group_iff}
use Rattle.mega_wal.proofs.laws.tests_tell.Goals as goal

pub returns-clause-entries : goal.returns-clause-entries
returns-clause-entries c = same_entry_iff

pub returns-clause-groups : goal.returns-clause-groups
returns-clause-groups c = same_group_iff
