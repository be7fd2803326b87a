-- How a node over its records stands to the node of the rules: while it is up, and where it starts.
use Rattle.std.specs.Prelude.{◌≡◌, ℕ, false, true, List, [], All, Option}
use Rattle.mega_cluster.specs.declared.cluster.Cluster.{Cluster}
use Rattle.mega_disk.specs.declared.records.Records.{Ghosts}
use Rattle.mega_disk.specs.VersionMaps.{Versions}
use Rattle.mega_handler.specs.Named.{Meaning, Meanings}
use Rattle.mega_meanings.specs.Means.{Means}
use Rattle.mega_wal.specs.Items.{IsItem}
use Rattle.mega_rules.specs.Clock.{start_of}
use Rattle.mega_rules.specs.Logs.{log_of}
use Rattle.mega_rules.specs.Met.{Met}
use Rattle.mega_rules.specs.Operations.{Node as RuleNode, Setting}
use Rattle.mega_rules.specs.Steps.{Event, onto, step}
use Rattle.mega_leases.specs.Opening.{AreOwed}
use Rattle.mega_replica.specs.Following.{progress_at}
use Rattle.mega_voter.specs.Holding.{HoldsMet, Recalls}
use Rattle.mega_voter.specs.Journal.{journal_of}
use Rattle.mega_core.specs.of_node_laws.Acted.{acted_on}
use Rattle.mega_core.specs.of_node_laws.Own.{HasOwnRows}
use Rattle.mega_core.specs.of_actions.of_step_work.Settings.{setting}
use Rattle.mega_core.specs.declared.node.Node.{Node}
use Rattle.mega_core.specs.Restarting.{HaveFollowed}
use Rattle.mega_core.specs.Standing.{StandsFor}
use Rattle.mega_core.specs.Stepping.{IsPlacedAt}
use Rattle.mega_durable.specs.declared.down.Down.{Down}
use Rattle.mega_durable.specs.Granted.{KeepsGrants}

-- the records of a node, and its setting
abbrev pub records_in : {R V : Type 0} → Node R V → R
records_in one = one.replica.voter.logs.records

abbrev pub setting_of : {R V : Type 0} → Node R V → Meanings → Setting
setting_of one h = setting one.replica.members one.replica.me h

-- a node that is up: it stands for that of the rules, nothing is staged, its records are open, and where they are told they hold what the node
-- met; and its lock cell keeps what was granted last
pub record IsUp {R V : Type 0} (store : Ghosts R) (version : V → Versions) (h : Meanings) (one : Node R V) (node : RuleNode) : Type 0 where
  pub stands : StandsFor version h one node
  pub empty : one.replica.voter.logs.staged.items ≡ []
  pub ready : store.is_spent (records_in one) ≡ false
  pub holds : store.is_told ≡ true → HoldsMet (store.list (records_in one)) (start_of node.met) node.met
  pub granted : KeepsGrants one.replica.members one.replica.me node.met

-- an event may happen at a node over handlers that make this of messages: they mean what its setting says, each group's rows are its own
-- then, and what is to be kept of the step has a text
pub record MayHappen (makes : List ℕ → Option Meaning) (s : Setting) (node : RuleNode) (event : Event) : Type 0 where
  pub means : Means makes s.handlers
  pub owned : HasOwnRows s.cluster.schema (log_of (acted_on s node event))
  pub placed : IsPlacedAt s node event
  pub formed : All IsItem (journal_of (step s node event).node.met)

-- logs and rows over which a node may start: the logs recall what it met and owes, their records are open and hold it where they are told, and
-- the rows follow it
pub record MayStart {R V : Type 0} (store : Ghosts R) (version : V → Versions) (c : Cluster) (me : ℕ) (down : Down R V) (starts : ℕ) (met owed : List Met) : Type 0 where
  pub owes : AreOwed owed met
  pub recalls : Recalls down.voter.logs.kept starts (onto owed met)
  pub ready : store.is_spent down.voter.logs.records ≡ false
  pub holds : store.is_told ≡ true → HoldsMet (store.list down.voter.logs.records) starts (onto owed met)
  pub rows : HaveFollowed c me (version down.rows.rows) (progress_at down.rows.progress) (onto owed met)
