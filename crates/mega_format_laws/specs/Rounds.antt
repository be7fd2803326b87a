-- What the message format can hold, of a round at one position.
use Rattle.std.specs.Prelude.{ℕ, ◌≤◌, List, [], ◌∷◌, Option}
use Rattle.mega_base.specs.Pairs.{IsPair}
use Rattle.mega_base.specs.Codec.{IsBetween, IsNested, IsOption}
use Rattle.mega_base.specs.Names.{IsGroup, IsNode, IsOp, IsU32}
use Rattle.mega_base.specs.declared.names.OpId.{OpId}
use Rattle.mega_ballot.specs.declared.ballot.Ballot.{Ballot}
use Rattle.mega_ballot.specs.Ballots.{IsBallot}
use Rattle.mega_entry.specs.declared.content.Content.{Content}
use Rattle.mega_entry.specs.Entries.{IsEntry, entry_text}
use Rattle.mega_wire.specs.declared.message.Message.{Message}
use Rattle.mega_wire.specs.Messages.{IsMessage}
use Rattle.mega_voter.specs.of_rules.of_read.of_propose.declared.round.Site.{Site}
use Rattle.mega_voter.specs.of_rules.of_read.of_propose.declared.round.Report.{Report}
use Rattle.mega_voter.specs.of_rules.of_read.of_propose.declared.round.Round.{Round}
use Rattle.mega_voter.specs.of_rules.of_read.of_propose.declared.round.Round.TheVariants.{Asking, Preparing, Accepting, Covering, Settled, Waiting}
use Rattle.mega_voter.specs.of_rules.of_read.of_propose.declared.round.Proposal.{Proposal}
use Rattle.mega_voter.specs.of_rules.of_read.of_propose.declared.round.Move.{Move}

-- each of a list is so
abbrev pub Each : {X : Type 0} → (X → Type 0) → List X → Type 0
Each P [] = Unit {0}
Each P (x ∷ xs) = P x × Each P xs

-- the number of a node, and a position where something is proposed or fetched
abbrev pub IsMember : ℕ → Type 0
IsMember n = IsBetween 1 9 n

abbrev pub IsPlace : ℕ → Type 0
IsPlace n = IsBetween 1 1000000 n

abbrev pub AreMessages : List Message → Type 0
AreMessages messages = Each IsMessage messages

-- an entry as a message can hold it
abbrev pub IsShort : Content → Type 0
IsShort entry = IsNested 65536 entry_text IsEntry entry

-- an operation that proposes and reads: its node stands in what it sends
abbrev pub IsSender : OpId → Type 0
IsSender op = IsOp op × IsNode op.node

pub record IsSite (s : Site) : Type 0 where
  pub op : IsSender s.op
  pub group : IsGroup s.group
  pub position : IsPlace s.position
  pub voters : Each IsMember s.voters
  pub full : Each IsMember s.full
  pub cells : s.cells ≤ 5

abbrev pub IsVote : Option (Ballot × Content) → Type 0
IsVote vote = IsOption (IsPair IsBallot IsShort) vote

abbrev pub IsReport : Report → Type 0
IsReport report = IsVote report.vote

abbrev pub IsRound : Round → Type 0
IsRound (Asking leader sent) = Unit {0}
IsRound (Preparing ballot reports sent) = IsBallot ballot × Each IsReport reports
IsRound (Accepting ballot entry voted sent) = IsBallot ballot × IsShort entry
IsRound (Covering ballot entry cover sent) = IsBallot ballot × IsShort entry
IsRound (Settled entry told) = IsShort entry
IsRound Waiting = Unit {0}

pub record IsProposal (p : Proposal) : Type 0 where
  pub own : IsShort p.own
  pub seen : IsU32 p.seen
  pub round : IsRound p.round

pub record IsMove (move : Move) : Type 0 where
  pub proposal : IsProposal move.proposal
  pub sends : AreMessages move.sends
