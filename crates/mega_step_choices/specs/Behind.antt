-- How far a group is applied at a node, and whether that is behind what is decided.
use Rattle.std.specs.Prelude.{ℕ, Bool, nat_lt, List}
use Rattle.mega_base.specs.declared.names.GroupId.{GroupId}
use Rattle.mega_disk.specs.VersionMaps.{Versions}
use Rattle.mega_propose.specs.of_wal.declared.kept.Kept.{Kept}
use Rattle.mega_voter.specs.of_rules.Met.{Met}
use Rattle.mega_voter.specs.of_rules.Logs.{log_of, prefix_of}
use Rattle.mega_voter.specs.of_rules.Steps.{applied_at}
use Rattle.mega_voter.specs.Telling.{Tells}
use Rattle.mega_replica.specs.declared.progress.Progress.{Progress}
use Rattle.mega_replica.specs.Following.{Follows}

-- logs and rows that tell what a node met, and how far it has stored
pub record Keeps (kept : Kept) (version : Versions) (progress : GroupId → Progress) (met : List Met) (stored : GroupId → ℕ) : Type 0 where
  pub tells : Tells kept met
  pub follows : Follows version progress (log_of met) stored

-- not all of a group is applied that is decided
abbrev pub is_behind : List Met → (GroupId → ℕ) → GroupId → Bool
is_behind met stored group = nat_lt (applied_at met stored group) (prefix_of met group)
