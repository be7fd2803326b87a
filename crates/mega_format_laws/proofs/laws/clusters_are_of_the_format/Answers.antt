use Rattle.mega_format_laws.proofs.Headers.{cluster_formed}
use Rattle.mega_format_laws.proofs.laws.clusters_are_of_the_format.Goals as goal

pub returns : goal.returns
returns c = cluster_formed
