-- A cluster that can start.
use Rattle.std.specs.Prelude.{◌≡◌, ℕ, List, Ok}
use Rattle.mega_cluster.specs.declared.cluster.Cluster.{Cluster}
use Rattle.mega_schema.specs.Verdict.{parse_of}
use Rattle.mega_view.specs.Served.{IsServed}

-- it is served, and its schema was read
pub record CanStart (c : Cluster) : Type 0 where
  pub served : IsServed c
  pub schema_text : List ℕ
  pub schema_read : parse_of schema_text ≡ Ok c.schema
