use Rattle.mega_tape_laws.proofs.Declared.{parsed_declared}
use Rattle.mega_tape_laws.proofs.DeclaredClusters.{cluster_declared}
use Rattle.mega_tape_laws.proofs.indexes.declared_schemas_keep_their_roots.Goals as goal

pub returns-clause-schemas : goal.returns-clause-schemas
returns-clause-schemas c = parsed_declared

pub returns-clause-clusters : goal.returns-clause-clusters
returns-clause-clusters c = cluster_declared
