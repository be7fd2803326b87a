-- The members of a cluster: its nodes by number, and what each kind does (CIDR 2011, replica types).
use Rattle.std.specs.Prelude.{ℕ, ◌+◌, ◌*◌, ◌-◌, Bool, true, false, nat_le, nat_lt, ◌&&◌, ◌||◌, List, [], ◌∷◌, length, filter, slice_get, Option, Some}
use Rattle.std.specs.List.{range_with_len}
use Rattle.mega_base.specs.declared.values.NodeKind.{NodeKind}
use Rattle.mega_base.specs.declared.values.NodeKind.TheVariants.{Full, Witness, Read}
use Rattle.mega_cluster.specs.declared.cluster.Cluster.{Cluster}

-- the nodes are numbered from 1
abbrev pub nodes : Cluster → List ℕ
nodes c = range_with_len 1 (length c.nodes)

abbrev pub kind_of : Cluster → ℕ → Option NodeKind
kind_of c node = slice_get c.nodes (node - 1)

abbrev pub is_node : Cluster → ℕ → Bool
is_node c node = nat_le 1 node && nat_le node (length c.nodes)

abbrev pub runs : Option NodeKind → Bool
runs (Some Full) = true
runs _ = false

abbrev pub votes : Option NodeKind → Bool
votes (Some Full) = true
votes (Some Witness) = true
votes _ = false

abbrev pub keeps_rows : Option NodeKind → Bool
keeps_rows (Some Full) = true
keeps_rows (Some Read) = true
keeps_rows _ = false

-- a full node runs transactions, reads and pumps, and has a coordinator
abbrev pub is_full : Cluster → ℕ → Bool
is_full c node = is_node c node && runs (kind_of c node)

-- a voter is a full node or a witness
abbrev pub is_voter : Cluster → ℕ → Bool
is_voter c node = is_node c node && votes (kind_of c node)

-- full and read-only nodes keep rows
abbrev pub has_rows : Cluster → ℕ → Bool
has_rows c node = is_node c node && keeps_rows (kind_of c node)

-- cell i lives in node i
abbrev pub is_cell : Cluster → ℕ → Bool
is_cell c node = nat_le 1 node && nat_le node c.cells

abbrev pub voters : Cluster → List ℕ
voters c = filter (is_voter c) (nodes c)

abbrev pub full_nodes : Cluster → List ℕ
full_nodes c = filter (is_full c) (nodes c)

abbrev pub cells : Cluster → List ℕ
cells c = range_with_len 1 c.cells

-- how long an epoch is kept by a cell
abbrev pub keep_of : Cluster → ℕ
keep_of c = c.lease + c.margin
