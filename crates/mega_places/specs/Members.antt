-- How the nodes of a world that are up stand to the nodes of a run.
use Rattle.std.specs.Prelude.{◌≡◌, ℕ, ◌-◌, ◌==◌, Bool, if◌then◌else◌, List, length, slice_get, Option, Some, None, is_some}
use Rattle.mega_cluster.specs.declared.cluster.Cluster.{Cluster}
use Rattle.mega_disk.specs.VersionMaps.{Versions}
use Rattle.mega_disk.specs.contracts.mem_records.MemRecordsRecords.TheImpl.{ghosts as in_memory}
use Rattle.mega_disk.specs.declared.mem_records.MemRecords.{MemRecords}
use Rattle.mega_rows.specs.declared.rows.VersionedRows.{VersionedRows}
use Rattle.mega_rows.specs.Lines.{version_in}
use Rattle.mega_handler.specs.Named.{Meanings}
use Rattle.mega_rules.specs.Clock.{is_up}
use Rattle.mega_rules.specs.Operations.{Node as RuleNode}
use Rattle.mega_durable.specs.of_core.declared.node.Node.{Node}
use Rattle.mega_durable.specs.Standing.{IsUp}
use Rattle.mega_places.specs.declared.member.Member.{Member}
use Rattle.mega_places.specs.declared.place.Place.{Place}
use Rattle.mega_places.specs.declared.place.Place.TheVariants.{Up, Down}

-- the versions of rows that a store in memory holds
abbrev pub version_of : VersionedRows → Versions
version_of rows = version_in rows.lines

-- the node itself, over logs and rows in memory, and its records
abbrev pub node_in : Member → Node MemRecords VersionedRows
node_in member = member.up.node

abbrev pub records_of : Member → MemRecords
records_of member = (node_in member).replica.voter.logs.records

-- the node in a place, while it is up
abbrev pub member_in : Option Place → Option Member
member_in None = None
member_in (Some (Up member)) = Some member
member_in (Some (Down fallen)) = None

-- the node of a number, counted from 1, while it is up
abbrev pub member_of : List Place → ℕ → Option Member
member_of places me = if me == 0 then None else member_in (slice_get places (me - 1))

abbrev pub is_up_at : List Place → ℕ → Bool
is_up_at places me = is_some (member_of places me)

-- such a node is up as a node of the rules
abbrev pub IsUpAs : Meanings → Node MemRecords VersionedRows → RuleNode → Type 0
IsUpAs h node ruled = IsUp in_memory version_of h node ruled

-- the node of this number of a cluster, which is up as a node of the rules, whatever handlers are there
pub record IsMember (c : Cluster) (me : ℕ) (member : Member) (ruled : RuleNode) : Type 0 where
  pub members : (node_in member).replica.members ≡ c
  pub number : (node_in member).replica.me ≡ me
  pub up : (h : Meanings) → IsUpAs h (node_in member) ruled

-- all nodes of a cluster in their places, in order, up where the rules have them so
pub record AreMembers (c : Cluster) (places : List Place) (ruled : ℕ → RuleNode) : Type 0 where
  pub count : length places ≡ length c.nodes
  pub each : (me : ℕ) (member : Member) → member_of places me ≡ Some member → IsMember c me member (ruled me)
  pub up_are : (me : ℕ) → is_up (ruled me).met ≡ is_up_at places me
