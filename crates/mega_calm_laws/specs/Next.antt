-- The position at which a node would write next: right behind its log of a group.
use Rattle.std.specs.Prelude.{◌≡◌, ℕ, zero, suc, ◌+◌, ◌≤◌, true, List, [], slice_get, Option, Some, None}
use Rattle.mega_base.specs.declared.names.GroupId.{GroupId}
use Rattle.mega_cluster.specs.declared.cluster.Cluster.{Cluster}
use Rattle.mega_handler.specs.Named.{Meanings}
use Rattle.mega_leased_laws.specs.of_run_laws.of_tape_laws.of_promises.of_rules.Acting.{named_leader}
use Rattle.mega_leased_laws.specs.of_run_laws.of_tape_laws.of_promises.of_rules.Coordinators.{valid_at}
use Rattle.mega_leased_laws.specs.of_run_laws.of_tape_laws.of_promises.of_rules.Logs.{decided, prefix_of, top_of}
use Rattle.mega_leased_laws.specs.of_run_laws.of_tape_laws.of_promises.of_rules.Members.{is_node, is_voter, voters}
use Rattle.mega_leased_laws.specs.of_run_laws.of_tape_laws.of_promises.of_rules.Met.{Met}
use Rattle.mega_leased_laws.specs.of_run_laws.of_tape_laws.of_promises.of_rules.Voting.{acts}
use Rattle.mega_leased_laws.specs.of_run_laws.of_tape_laws.of_promises.Runs.{Cuts, Happening, Standing, goes_on, opening}

-- the leader behind a position: the node that the entry there names, and the lowest voter for the first
abbrev pub leader_behind : Cluster → List Met → GroupId → ℕ → Option ℕ
leader_behind c met group zero = slice_get (voters c) 0
leader_behind c met group (suc p) = named_leader (voters c) (decided met group (suc p))

-- its log reaches as far as the node accepted; the log has room; the leader behind it is a voter; and no voter accepted or promised anything there,
-- nor did a node decide it
pub record IsNextAt (c : Cluster) (now : Standing) (me : ℕ) (group : GroupId) (n leader : ℕ) : Type 0 where
  pub reaches : top_of (now.node me).met group ≡ prefix_of (now.node me).met group
  pub next : n ≡ prefix_of (now.node me).met group + 1
  pub room : n ≤ (c.limit).0
  pub led : leader_behind c (now.node me).met group (prefix_of (now.node me).met group) ≡ Some leader
  pub leader_votes : is_voter c leader ≡ true
  pub unaccepted : (node : ℕ) → is_voter c node ≡ true → acts (now.node node).met group n ≡ []
  pub undecided : (node : ℕ) → is_node c node ≡ true → decided (now.node node).met group n ≡ None

-- a run whose events these are
abbrev pub run_of : Cluster → Cuts → Meanings → List Happening → Standing
run_of c cuts first events = goes_on c cuts (opening c first) events

-- a node has all of a group at hand, below a position: the group is valid there, its log reaches through the position below and as far as the node accepted,
-- and the leader of the position is a voter
pub record HasAtHand (c : Cluster) (now : Standing) (me : ℕ) (group : GroupId) (n leader : ℕ) : Type 0 where
  pub valid : valid_at c (now.node me).met group ≡ true
  pub reaches : top_of (now.node me).met group ≡ prefix_of (now.node me).met group
  pub next : n ≡ prefix_of (now.node me).met group + 1
  pub led : leader_behind c (now.node me).met group (prefix_of (now.node me).met group) ≡ Some leader
  pub leader_votes : is_voter c leader ≡ true
