-- A cluster that is read from a header is of the format, and its schema is one whose names tell its tables and properties.
use Rattle.std.proofs.Common.{◌≡◌, ℕ, List, Ok}
use Rattle.mega_cluster.specs.declared.cluster.Cluster.{Cluster}
use Rattle.mega_cluster.specs.Header.{read_of}
use Rattle.mega_format_laws.specs.Histories.{IsCluster}
use Rattle.mega_format_laws.proofs.Headers.{cluster_formed}
use Rattle.mega_tape_laws.specs.Indexed.{IsDeclared}
use Rattle.mega_tape_laws.proofs.DeclaredClusters.{cluster_declared, cluster_holds}
use Rattle.mega_plain_laws.specs.Answers.{IsNamed}
use Rattle.mega_shown_laws.proofs.Named.{parsed_named}

pub header_meets : (least : ℕ) (text : List ℕ) (c : Cluster) → read_of least text ≡ Ok c → IsCluster c × IsNamed c.schema × IsDeclared c.schema
header_meets least text c h = (cluster_formed least text c h, cluster_holds IsNamed parsed_named least text c h, cluster_declared least text c h)
