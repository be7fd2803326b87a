-- What each kind of node has between steps (CIDR 2011, replica types).
use Rattle.std.specs.Prelude.{◌≡◌, ℕ, true, false, List, []}
use Rattle.mega_base.specs.declared.names.GroupId.{GroupId}
use Rattle.mega_cluster.specs.declared.cluster.Cluster.{Cluster}
use Rattle.mega_rules.specs.Members.{has_rows, is_full, is_node}
use Rattle.mega_rules.specs.Operations.{Operation}
use Rattle.mega_actions.specs.of_view.Small.{IsSmall}

-- a node of its cluster, whose schema is one that a text can declare; at one that is not full no operation is open, and one without rows
-- has stored nothing
pub record FitsKind (c : Cluster) (me : ℕ) (open_ones : List Operation) (stored : GroupId → ℕ) : Type 0 where
  pub member : is_node c me ≡ true
  pub small : IsSmall c.schema
  pub idle : is_full c me ≡ false → open_ones ≡ []
  pub bare : has_rows c me ≡ false → (group : GroupId) → stored group ≡ 0
