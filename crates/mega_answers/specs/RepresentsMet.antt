-- How what a node keeps stands to what it met, within a step.
use Rattle.std.specs.Prelude.{ℕ, List}
use Rattle.mega_base.specs.declared.names.GroupId.{GroupId}
use Rattle.mega_disk.specs.VersionMaps.{Versions}
use Rattle.mega_wal.specs.declared.kept.Kept.{Kept}
use Rattle.mega_rules.specs.Met.{Met}
use Rattle.mega_rules.specs.Logs.{log_of}
use Rattle.mega_rules.specs.Operations.{Setting}
use Rattle.mega_step_work.specs.of_voter.Telling.{Tells}
use Rattle.mega_step_work.specs.of_leases.declared.leases.Leases.{Leases}
use Rattle.mega_step_work.specs.of_leases.Tells.{Tells as TellsLeases}
use Rattle.mega_replica.specs.declared.progress.Progress.{Progress}
use Rattle.mega_replica.specs.Following.{Follows}
use Rattle.mega_marks.specs.of_node_laws.Own.{HasOwnRows}
use Rattle.mega_view.specs.Small.{IsSmall}

-- its logs and its leases tell what it met, its rows follow its logs, each group's rows are its own, and its schema is one that a text can declare
pub record RepresentsMet (s : Setting) (kept : Kept) (leases : Leases) (version : Versions) (progress : GroupId → Progress) (met : List Met) (stored : GroupId → ℕ) : Type 0 where
  pub tells : Tells kept met
  pub leased : TellsLeases s.cluster s.me leases met
  pub follows : Follows version progress (log_of met) stored
  pub owned : HasOwnRows s.cluster.schema (log_of met)
  pub small : IsSmall s.cluster.schema
