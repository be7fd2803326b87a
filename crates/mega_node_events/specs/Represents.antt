-- How what a node keeps stands to the node of the rules, between steps.
use Rattle.std.specs.Prelude.{◌≡◌, ℕ, min, List}
use Rattle.std.specs.List.{All}
use Rattle.mega_base.specs.declared.names.GroupId.{GroupId}
use Rattle.mega_disk.specs.VersionMaps.{Versions}
use Rattle.mega_wal.specs.declared.kept.Kept.{Kept}
use Rattle.mega_rules.specs.Clock.{begun_of, last_number}
use Rattle.mega_rules.specs.Logs.{log_of}
use Rattle.mega_rules.specs.Operations.{Node, Operation, Setting}
use Rattle.mega_step_parts.specs.of_voter.Telling.{Tells}
use Rattle.mega_step_parts.specs.of_leases.declared.leases.Leases.{Leases}
use Rattle.mega_step_parts.specs.of_leases.Tells.{Tells as TellsLeases}
use Rattle.mega_replica.specs.declared.progress.Progress.{Progress}
use Rattle.mega_replica.specs.Following.{Follows}
use Rattle.mega_actions.specs.of_node_laws.About.{IsAbout}
use Rattle.mega_actions.specs.of_marks.declared.indexed.Indexed.{Indexed}
use Rattle.mega_actions.specs.of_pumps.declared.digest.Digest.{Digest}
use Rattle.mega_actions.specs.of_pumps.Notes.{HasNoted}
use Rattle.mega_actions.specs.of_marks.AreMarked.{IsIndexed}
use Rattle.mega_actions.specs.Turns.{IsServable}
use Rattle.mega_node_events.specs.Kind.{FitsKind}

-- its logs and leases tell what it met, its rows follow its logs, its global indexes are at the marks of the last refresh of this start, its
-- digest has noted of its logs, and its open operations, which are served and each about the group of its request, are those of the rules; it has what its kind has, and counts
-- what it began up to the last number
pub record Represents (s : Setting) (kept : Kept) (leases : Leases) (indexed : Indexed) (digest : Digest) (version : Versions) (progress : GroupId → Progress) (open_ones : List Operation) (begun : ℕ) (node : Node) : Type 0 where
  pub kind : FitsKind s.cluster s.me open_ones node.stored
  pub tells : Tells kept node.met
  pub leased : TellsLeases s.cluster s.me leases node.met
  pub follows : Follows version progress (log_of node.met) node.stored
  pub marked : IsIndexed s.cluster.schema indexed node.met
  pub noted : HasNoted kept digest
  pub opened : node.open_operations ≡ open_ones
  pub begun_is : begun ≡ min (begun_of node.met) last_number
  pub about : All IsAbout open_ones
  pub built : All IsServable open_ones
