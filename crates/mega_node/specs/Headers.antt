-- The header of a node: its cluster has the node, and an address for each node.
use Rattle.std.specs.Prelude.{◌≡◌, ℕ, ◌==◌, if◌then◌else◌, length, List, Option, Result, Ok, Err}
use Rattle.mega_cluster.specs.declared.cluster.Cluster.{Cluster}
use Rattle.mega_cluster.specs.Header.{◌>>=◌, read_of}
use Rattle.mega_header.specs.Known.{IfKnown}
use Rattle.mega_header.specs.Parts.{cluster_in}
pub use Rattle.mega_transcript.specs.Words.{header_line}

-- a cluster with one address for each node; any other breaks rule 8
abbrev pub addressed : Cluster → Result Cluster ℕ
addressed c = if length c.addresses == length c.nodes then Ok c else Err 8

-- the cluster of the header for the node of this number, or the first rule that it breaks
abbrev pub members_in : ℕ → List ℕ → Result Cluster ℕ
members_in number input = cluster_in number input >>= addressed

abbrev pub IsHeaded : ℕ → Option (List ℕ) → Cluster → Type 0
IsHeaded number input c = IfKnown input (λ bytes. members_in number bytes ≡ Ok c)

abbrev pub IsBroken : ℕ → Option (List ℕ) → ℕ → Type 0
IsBroken number input rule = IfKnown input (λ bytes. members_in number bytes ≡ Err rule)

-- it was read from some text
abbrev pub IsRead : ℕ → Cluster → Type 0
IsRead number c = (text : List ℕ) × (read_of number text ≡ Ok c)
