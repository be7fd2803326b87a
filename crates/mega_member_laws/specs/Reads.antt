-- A current read whose messages stay within its cluster.
use Rattle.std.specs.Prelude.{◌≤◌, length, Option, Some, None}
use Rattle.mega_cluster.specs.declared.cluster.Cluster.{Cluster}
use Rattle.mega_format_laws.specs.of_rules.of_read.declared.reading.Reader.{Reader}
use Rattle.mega_format_laws.specs.of_rules.of_read.declared.reading.Search.{Search}
use Rattle.mega_format_laws.specs.of_rules.of_read.declared.reading.Search.TheVariants.{Fetching, Filling}
use Rattle.mega_format_laws.specs.of_rules.of_read.declared.reading.Stage.{Stage}
use Rattle.mega_format_laws.specs.of_rules.of_read.declared.reading.Stage.TheVariants.{Polling, Catching}
use Rattle.mega_format_laws.specs.of_rules.of_read.declared.reading.Reading.{Reading}
use Rattle.mega_format_laws.specs.of_rules.of_read.declared.reading.Move.{Move}
use Rattle.mega_format_laws.specs.Rounds.{Each}
use Rattle.mega_member_laws.specs.Messages.{AreWithin, IsHere}
use Rattle.mega_member_laws.specs.Rounds.{ProposalWithin}

-- a node of the cluster reads, among nodes of it
pub record ReaderWithin (c : Cluster) (who : Reader) : Type 0 where
  pub op : IsHere c who.op.node.0
  pub voters : Each (IsHere c) who.voters
  pub full : Each (IsHere c) who.full
  pub cells : who.cells ≤ length c.nodes

abbrev pub SearchWithin : Cluster → Option Search → Type 0
SearchWithin c None = Unit {0}
SearchWithin c (Some (Fetching position denied sent)) = Unit {0}
SearchWithin c (Some (Filling position proposal)) = ProposalWithin c proposal

abbrev pub StageWithin : Cluster → Stage → Type 0
StageWithin c (Polling heard best sent) = Unit {0}
StageWithin c (Catching through search) = SearchWithin c search

pub record ReadingWithin (c : Cluster) (r : Reading) : Type 0 where
  pub stage : StageWithin c r.stage

pub record ReadMoveWithin (c : Cluster) (move : Move) : Type 0 where
  pub reading : ReadingWithin c move.reading
  pub sends : AreWithin c move.sends
