-- Which clusters are served: what the header of a cluster says that was read.
use Rattle.std.specs.Prelude.{◌≡◌, ◌⊎◌, ◌≤◌, ◌<◌, ◌+◌, ◌^◌, length}
use Rattle.mega_cluster.specs.declared.cluster.Cluster.{Cluster}
use Rattle.mega_view.specs.Small.{IsSmall}

-- at most 9 nodes; 1, 3 or 5 cells, and no more than nodes; a lease of at most a billion milliseconds, which ends with its margin within
-- the numbers of clocks; a log of at most a million entries; and a schema that a text can declare
pub record IsServed (c : Cluster) : Type 0 where
  pub few : length c.nodes ≤ 9
  pub cells : (c.cells ≡ 1) ⊎ (c.cells ≡ 3) ⊎ (c.cells ≡ 5)
  pub housed : c.cells ≤ length c.nodes
  pub lease : c.lease ≤ 1000000000
  pub fits : c.lease + c.margin < 2 ^ 64
  pub limit : (c.limit).0 ≤ 1000000
  pub small : IsSmall c.schema
