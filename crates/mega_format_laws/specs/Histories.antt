-- What the message format can hold, of a cluster and of what a node met.
use Rattle.std.specs.Prelude.{ℕ, ◌≤◌, List, length}
use Rattle.mega_base.specs.Codec.{IsBetween}
use Rattle.mega_base.specs.Names.{IsEpoch, IsGroup, IsU32}
use Rattle.mega_cluster.specs.declared.cluster.Cluster.{Cluster}
use Rattle.mega_wire.specs.Messages.{IsMessage}
use Rattle.mega_voter.specs.of_rules.Met.{Met, Starts, Crashes, Ticks, Begins, Takes, Sends, Unsends, Grants, Lapses, Counts, Forgets, Serves, Loses, Validates, Invalidates, Decides, Applies, Answers}
use Rattle.mega_format_laws.specs.Rounds.{Each, IsMember, IsPlace, IsShort}

-- at most nine nodes, five cells and a million positions, as the rules of headers have it
pub record IsCluster (c : Cluster) : Type 0 where
  pub nodes : length c.nodes ≤ 9
  pub cells : c.cells ≤ 5
  pub limit : (c.limit).0 ≤ 1000000

-- milliseconds
abbrev pub IsClock : ℕ → Type 0
IsClock now = IsBetween 0 1000000000000 now

abbrev pub IsItem : Met → Type 0
IsItem (Starts start) = IsU32 start
IsItem (Ticks now) = IsClock now
IsItem (Takes message) = IsMessage message
IsItem (Sends message) = IsMessage message
IsItem (Unsends message) = IsMessage message
IsItem (Grants node epoch) = IsMember node × IsEpoch epoch
IsItem (Lapses node epoch) = IsMember node × IsEpoch epoch
IsItem (Decides group position entry) = IsGroup group × (IsPlace position × IsShort entry)
IsItem Crashes = Unit {0}
IsItem (Begins op text) = Unit {0}
IsItem (Counts cell epoch) = Unit {0}
IsItem (Forgets cell epoch) = Unit {0}
IsItem (Serves epoch) = Unit {0}
IsItem (Loses epoch) = Unit {0}
IsItem (Validates group position) = Unit {0}
IsItem (Invalidates group position) = Unit {0}
IsItem (Applies group position) = Unit {0}
IsItem (Answers op answer) = Unit {0}

abbrev pub IsMet : List Met → Type 0
IsMet met = Each IsItem met
