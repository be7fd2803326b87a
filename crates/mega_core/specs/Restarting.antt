-- What of a node's rows a start finds, and how far it has stored each group's decided prefix then.
use Rattle.std.specs.Prelude.{◌≡◌, ℕ, false, if◌then◌else◌, List}
use Rattle.mega_base.specs.declared.names.GroupId.{GroupId}
use Rattle.mega_cluster.specs.declared.cluster.Cluster.{Cluster}
use Rattle.mega_disk.specs.VersionMaps.{Versions}
use Rattle.mega_replica.specs.declared.progress.Progress.{Progress}
use Rattle.mega_replica.specs.Following.{Follows}
use Rattle.mega_rules.specs.Logs.{log_of}
use Rattle.mega_rules.specs.Members.{has_rows}
use Rattle.mega_rules.specs.Met.{Met}
use Rattle.mega_rules.specs.Operations.{Setting}
use Rattle.mega_rules.specs.Steps.{apply_all}

-- all of it where it keeps rows, and nothing where it keeps none
abbrev pub applied_at_start : Setting → List Met → GroupId → ℕ
applied_at_start s met group = if has_rows s.cluster s.me then apply_all met group else 0

-- rows that follow the logs, some way or not at all; and not at all where the node keeps none
pub record HaveFollowed (c : Cluster) (me : ℕ) (version : Versions) (progress : GroupId → Progress) (met : List Met) : Type 0 where
  pub stored : GroupId → ℕ
  pub follows : Follows version progress (log_of met) stored
  pub bare : has_rows c me ≡ false → (group : GroupId) → stored group ≡ 0
