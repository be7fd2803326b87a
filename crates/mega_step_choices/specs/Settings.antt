-- A node of a cluster, as the rules know it.
use Rattle.std.specs.Prelude.{ℕ}
use Rattle.mega_cluster.specs.declared.cluster.Cluster.{Cluster}
use Rattle.mega_handler.specs.Named.{Meanings}
use Rattle.mega_rules.specs.Operations.{Setting}

-- with handlers
abbrev pub setting : Cluster → ℕ → Meanings → Setting
setting c me h = record { cluster = c; me = me; handlers = h }
