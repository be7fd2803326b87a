-- What each node of a world keeps that outlives its crash: its logs and rows, or its records, what its next start owes, and the fuse on its log.
use Rattle.std.specs.Prelude.{◌≡◌, ℕ, ◌+◌, false, List, [], slice_get, Option, Some, None}
use Rattle.mega_cluster.specs.declared.cluster.Cluster.{Cluster}
use Rattle.mega_disk.specs.declared.mem_records.MemRecords.{MemRecords}
use Rattle.mega_leases.specs.Opening.{AreOwed}
use Rattle.mega_replica.specs.Following.{progress_at}
use Rattle.mega_rows.specs.declared.rows.VersionedRows.{VersionedRows}
use Rattle.mega_rules.specs.Clock.{start_of}
use Rattle.mega_rules.specs.Met.{Met}
use Rattle.mega_rules.specs.Operations.{Node as RuleNode}
use Rattle.mega_rules.specs.Steps.{onto}
use Rattle.mega_voter.specs.Holding.{HoldsMet, Recalls}
use Rattle.mega_durable.specs.of_core.Restarting.{HaveFollowed}
use Rattle.mega_durable.specs.declared.cut.Cut.{Cut}
use Rattle.mega_durable.specs.declared.down.Down.{Down as DownNode}
use Rattle.mega_durable.specs.Replying.{owed_by}
use Rattle.mega_promises.specs.Runs.{Fuse, Standing}
use Rattle.mega_places.specs.declared.fallen.Fallen.{Fallen}
use Rattle.mega_places.specs.declared.member.Member.{Member}
use Rattle.mega_places.specs.declared.place.Place.{Place}
use Rattle.mega_places.specs.declared.place.Place.TheVariants.{Up, Down}
use Rattle.mega_places.specs.declared.remains.Remains.{Remains}
use Rattle.mega_places.specs.declared.remains.Remains.TheVariants.{InMemory, OnDisk}
use Rattle.mega_places.specs.LogFuses.{IsFused}
use Rattle.mega_places.specs.Members.{AreMembers, node_in, records_of, version_of}

-- what is owed to a step that was cut off, where its record was kept
abbrev pub owed_of : Option Cut → List Met
owed_of None = []
owed_of (Some cut) = owed_by cut

-- a node that is up started so often, owes nothing, and has this fuse on its log
pub record IsSettled (member : Member) (starts : ℕ) (owed met : List Met) (fuse : Option Fuse) : Type 0 where
  pub started : starts ≡ start_of met
  pub unowed : owed ≡ []
  pub fused : IsFused member.fuse (records_of member) fuse

-- what a node leaves that goes down between two steps, and the records below what is left
abbrev pub remains_of : Member → Remains
remains_of member = InMemory (record { voter = (node_in member).replica.voter; rows = (node_in member).replica.rows })

abbrev pub records_below : Remains → MemRecords
records_below (InMemory down) = down.voter.logs.records
records_below (OnDisk records) = records

-- logs and rows in memory over which a node may start: nothing waits in the logs, they recall what was met, their records are open, and the
-- rows follow them
pub record IsReady (c : Cluster) (me : ℕ) (down : DownNode MemRecords VersionedRows) (starts : ℕ) (met : List Met) : Type 0 where
  pub empty : down.voter.logs.staged.items ≡ []
  pub recalls : Recalls down.voter.logs.kept starts met
  pub ready : down.voter.logs.records.spent ≡ false
  pub rows : HaveFollowed c me (version_of down.rows.rows) (progress_at down.rows.progress) met

abbrev pub AreReady : Cluster → ℕ → Remains → ℕ → List Met → Type 0
AreReady c me (InMemory down) starts met = IsReady c me down starts met
AreReady c me (OnDisk records) starts met = Unit {0}

-- what a node left that is down: it holds what it met and owes, which may be owed, and how often it started
pub record IsFallen (c : Cluster) (me : ℕ) (fallen : Fallen) (starts : ℕ) (owed met : List Met) (fuse : Option Fuse) : Type 0 where
  pub follows : AreOwed owed met
  pub holds : HoldsMet (records_below fallen.remains).list.items starts (onto owed met)
  pub ready : AreReady c me fallen.remains starts (onto owed met)
  pub owes : owed_of fallen.owed ≡ owed
  pub fused : IsFused fallen.fuse (records_below fallen.remains) fuse

abbrev pub IsKept : Cluster → ℕ → Place → ℕ → List Met → List Met → Option Fuse → Type 0
IsKept c me (Up member) starts owed met fuse = IsSettled member starts owed met fuse
IsKept c me (Down fallen) starts owed met fuse = IsFallen c me fallen starts owed met fuse

-- the same of each place, of which the first is that of node 1
pub record AreKept (c : Cluster) (places : List Place) (starts : ℕ → ℕ) (owed : ℕ → List Met) (ruled : ℕ → RuleNode) (fuses : ℕ → Option Fuse) : Type 0 where
  pub each : (i : ℕ) (place : Place) → slice_get places i ≡ Some place → IsKept c (i + 1) place (starts (i + 1)) (owed (i + 1)) (ruled (i + 1)).met (fuses (i + 1))

-- the nodes of a world are those of the run, up or down, with all that they keep
pub record AreNodes (c : Cluster) (places : List Place) (now : Standing) : Type 0 where
  pub members : AreMembers c places now.node
  pub kept : AreKept c places now.starts now.owed now.node now.log_fuse
