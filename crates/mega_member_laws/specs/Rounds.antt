-- A round whose messages stay within its cluster.
use Rattle.std.specs.Prelude.{◌≤◌, length}
use Rattle.mega_cluster.specs.declared.cluster.Cluster.{Cluster}
use Rattle.mega_format_laws.specs.of_rules.of_read.of_propose.declared.round.Site.{Site}
use Rattle.mega_format_laws.specs.of_rules.of_read.of_propose.declared.round.Report.{Report}
use Rattle.mega_format_laws.specs.of_rules.of_read.of_propose.declared.round.Round.{Round}
use Rattle.mega_format_laws.specs.of_rules.of_read.of_propose.declared.round.Round.TheVariants.{Asking, Preparing, Accepting, Covering, Settled, Waiting}
use Rattle.mega_format_laws.specs.of_rules.of_read.of_propose.declared.round.Proposal.{Proposal}
use Rattle.mega_format_laws.specs.of_rules.of_read.of_propose.declared.round.Move.{Move}
use Rattle.mega_format_laws.specs.Rounds.{Each}
use Rattle.mega_member_laws.specs.Messages.{AreWithin, IsHere, NamesHere, VotesHere}

-- a node of the cluster proposes, among nodes of it
pub record SiteWithin (c : Cluster) (s : Site) : Type 0 where
  pub op : IsHere c s.op.node.0
  pub voters : Each (IsHere c) s.voters
  pub full : Each (IsHere c) s.full
  pub cells : s.cells ≤ length c.nodes

abbrev pub ReportsHere : Cluster → Report → Type 0
ReportsHere c report = VotesHere c report.vote

-- all entries of a round name nodes of the cluster
abbrev pub RoundWithin : Cluster → Round → Type 0
RoundWithin c (Asking leader sent) = Unit {0}
RoundWithin c (Preparing ballot reports sent) = Each (ReportsHere c) reports
RoundWithin c (Accepting ballot entry voted sent) = NamesHere c entry
RoundWithin c (Covering ballot entry cover sent) = NamesHere c entry
RoundWithin c (Settled entry told) = NamesHere c entry
RoundWithin c Waiting = Unit {0}

pub record ProposalWithin (c : Cluster) (p : Proposal) : Type 0 where
  pub own : NamesHere c p.own
  pub round : RoundWithin c p.round

pub record MoveWithin (c : Cluster) (move : Move) : Type 0 where
  pub proposal : ProposalWithin c move.proposal
  pub sends : AreWithin c move.sends
