-- How a calm group stands at its next position: the log below is decided at voters and most of them know its end, and nothing was made there.
use Rattle.std.specs.Prelude.{◌≡◌, ℕ, zero, suc, ◌+◌, ◌≤◌, Bool, true, nat_le, List, [], filter, length, slice_get, Option, Some, None}
use Rattle.mega_base.specs.declared.names.GroupId.{GroupId}
use Rattle.mega_cluster.specs.declared.cluster.Cluster.{Cluster}
use Rattle.mega_entry.specs.declared.content.Content.{Content}
use Rattle.mega_leased_laws.specs.of_run_laws.of_tape_laws.of_promises.of_rules.of_read.of_propose.Members.{is_majority}
use Rattle.mega_leased_laws.specs.of_run_laws.of_tape_laws.of_promises.of_rules.Acting.{named_leader}
use Rattle.mega_leased_laws.specs.of_run_laws.of_tape_laws.of_promises.of_rules.Coordinators.{valid_at}
use Rattle.mega_leased_laws.specs.of_run_laws.of_tape_laws.of_promises.of_rules.Logs.{decided, top_of}
use Rattle.mega_leased_laws.specs.of_run_laws.of_tape_laws.of_promises.of_rules.Members.{is_node, is_voter, voters}
use Rattle.mega_leased_laws.specs.of_run_laws.of_tape_laws.of_promises.of_rules.Voting.{acts}
use Rattle.mega_leased_laws.specs.of_run_laws.of_tape_laws.of_promises.Runs.{Standing}

-- the leader of the position behind a log: the node that its last entry names, and of position 1 the lowest voter
abbrev pub leader_behind : Cluster → List Content → ℕ → Option ℕ
leader_behind c log zero = slice_get (voters c) 0
leader_behind c log (suc last) = named_leader (voters c) (slice_get log last)

-- a voter accepted or decided the last position of a log
abbrev pub knows_end : Standing → GroupId → List Content → ℕ → Bool
knows_end now group log voter = nat_le (length log) (top_of (now.node voter).met group)

-- the node that leads behind a log is a voter
pub record HasLeader (c : Cluster) (log : List Content) : Type 0 where
  pub leader : ℕ
  pub leads : leader_behind c log (length log) ≡ Some leader
  pub votes : is_voter c leader ≡ true

pub record IsReady (c : Cluster) (now : Standing) (me : ℕ) (group : GroupId) (log : List Content) : Type 0 where
  -- what voters decided is the log's, and they accepted nothing behind it
  pub agreed : (voter i : ℕ) (entry : Content) → is_voter c voter ≡ true → decided (now.node voter).met group (i + 1) ≡ Some entry → slice_get log i ≡ Some entry
  pub within : (voter : ℕ) → is_voter c voter ≡ true → top_of (now.node voter).met group ≤ length log
  -- more than half of the voters know its end, and so does a node at which the group is valid
  pub known : is_majority (length (voters c)) (length (filter (knows_end now group log) (voters c))) ≡ true
  pub valid : valid_at c (now.node me).met group ≡ true → length log ≤ top_of (now.node me).met group
  -- behind it no voter made anything, and no node decided
  pub unmade : (voter : ℕ) → is_voter c voter ≡ true → acts (now.node voter).met group (length log + 1) ≡ []
  pub undecided : (node : ℕ) → is_node c node ≡ true → decided (now.node node).met group (length log + 1) ≡ None
  -- its leader is a voter
  pub leader : ℕ
  pub leads : leader_behind c log (length log) ≡ Some leader
  pub leader_votes : is_voter c leader ≡ true
