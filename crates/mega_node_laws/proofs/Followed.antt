-- The rows that follow a node's logs follow them as the node meets more.
use Rattle.std.proofs.Common.{sym, subst, List, ◌∷◌}
use Rattle.mega_base.specs.declared.names.GroupId.{GroupId}
use Rattle.mega_disk.specs.VersionMaps.{Versions}
use Rattle.mega_voter.specs.of_rules.Met.{Met}
use Rattle.mega_voter.specs.of_rules.Logs.{log_of}
use Rattle.mega_voter.specs.of_rules.Steps.{onto}
use Rattle.mega_replica.specs.declared.progress.Progress.{Progress}
use Rattle.mega_replica.specs.Stored.{Counts, GroupLogs}
use Rattle.mega_replica.specs.Following.{Follows}
use Rattle.mega_replica.proofs.Growing.{grows}
use Rattle.mega_node_laws.specs.Deciding.{SameLogs}
use Rattle.mega_node_laws.proofs.Logs.{log_more, log_more_after}

pub follows_more : (version : Versions) (progress : GroupId → Progress) (one : Met) (met : List Met) (stored : Counts) → Follows version progress (log_of met) stored → Follows version progress (log_of (one ∷ met)) stored
follows_more version progress one met stored follows =
    grows version progress (log_of met) (log_of (one ∷ met)) stored (λ group. (log_more one met group).0) (λ group. (log_more one met group).1) follows

pub follows_after : (version : Versions) (progress : GroupId → Progress) (items met : List Met) (stored : Counts) → Follows version progress (log_of met) stored → Follows version progress (log_of (onto items met)) stored
follows_after version progress items met stored follows =
    grows version progress (log_of met) (log_of (onto items met)) stored (λ group. (log_more_after items met group).0) (λ group. (log_more_after items met group).1) follows

-- and they follow logs that are the same
pub follows_same_logs : (version : Versions) (progress : GroupId → Progress) (old new : List Met) (stored : Counts) → SameLogs old new → Follows version progress (log_of old) stored → Follows version progress (log_of new) stored
follows_same_logs version progress old new stored same follows = subst (λ (log : GroupLogs). Follows version progress log stored) (sym (λ i group. same.logs group i)) follows
