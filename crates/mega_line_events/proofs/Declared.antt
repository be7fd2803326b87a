-- A cluster that can start: its tables are those that its schema declares, and it is of the format.
use Rattle.std.proofs.Common.{◌≡◌, ◌⊎◌, inl, inr, ℕ, ◌≤◌, arith}
use Rattle.mega_cluster.specs.declared.cluster.Cluster.{Cluster}
use Rattle.mega_shown_laws.specs.of_format_laws.Histories.{IsCluster}
use Rattle.mega_shown_laws.specs.of_tape_laws.Indexed.{IsDeclared}
use Rattle.mega_shown_laws.proofs.of_tape_laws.Declared.{parsed_declared}
use Rattle.mega_line_laws.specs.Clusters.{CanStart}

pub declared_of : (c : Cluster) → CanStart c → IsDeclared c.schema
declared_of c can = parsed_declared can.schema_text c.schema can.schema_read

pub cells_few : (n : ℕ) → (n ≡ 1) ⊎ (n ≡ 3) ⊎ (n ≡ 5) → n ≤ 5
cells_few n (inl one) = omega (arith, one)
cells_few n (inr (inl three)) = omega (arith, three)
cells_few n (inr (inr five)) = omega (arith, five)

pub is_cluster : (c : Cluster) → CanStart c → IsCluster c
is_cluster c can = record { nodes = can.served.few; cells = cells_few c.cells can.served.cells; limit = can.served.limit }
