-- Rounds and reads of a group that hold only entries which write rows of the group.
use Rattle.std.specs.Prelude.{Option, Some}
use Rattle.mega_base.specs.declared.names.GroupId.{GroupId}
use Rattle.mega_schema.specs.declared.schema.Schema.{Schema}
use Rattle.mega_run_laws.specs.of_rules.of_read.of_propose.declared.round.Report.{Report}
use Rattle.mega_run_laws.specs.of_rules.of_read.of_propose.declared.round.Round.{Round}
use Rattle.mega_run_laws.specs.of_rules.of_read.of_propose.declared.round.Round.TheVariants.{Preparing, Accepting, Covering, Settled}
use Rattle.mega_run_laws.specs.of_rules.of_read.of_propose.declared.round.Proposal.{Proposal}
use Rattle.mega_run_laws.specs.of_rules.of_read.of_propose.declared.round.Move.{Move}
use Rattle.mega_run_laws.specs.of_rules.of_read.declared.reading.Search.{Search}
use Rattle.mega_run_laws.specs.of_rules.of_read.declared.reading.Search.TheVariants.{Filling}
use Rattle.mega_run_laws.specs.of_rules.of_read.declared.reading.Stage.{Stage}
use Rattle.mega_run_laws.specs.of_rules.of_read.declared.reading.Stage.TheVariants.{Catching}
use Rattle.mega_run_laws.specs.of_rules.of_read.declared.reading.Reading.{Reading}
use Rattle.mega_run_laws.specs.of_rules.of_read.declared.reading.Move.{Move as ReadMove}
use Rattle.mega_run_laws.specs.Justified.{Each}
use Rattle.mega_own_laws.specs.Entries.{IsOwn}
use Rattle.mega_own_laws.specs.Messages.{AllTellOwn, VoteOwn}

abbrev pub ReportOwn : Schema → GroupId → Report → Type 0
ReportOwn schema group report = VoteOwn schema group report.vote

-- the entry that a round proposes, and those that voters reported to it
abbrev pub RoundOwn : Schema → GroupId → Round → Type 0
RoundOwn schema group (Preparing ballot reports sent) = Each (ReportOwn schema group) reports
RoundOwn schema group (Accepting ballot entry voted sent) = IsOwn schema group entry
RoundOwn schema group (Covering ballot entry cover sent) = IsOwn schema group entry
RoundOwn schema group (Settled entry told) = IsOwn schema group entry
RoundOwn schema group _ = Unit {0}

pub record ProposalOwn (schema : Schema) (group : GroupId) (p : Proposal) : Type 0 where
  pub own : IsOwn schema group p.own
  pub round : RoundOwn schema group p.round

pub record MoveOwn (schema : Schema) (group : GroupId) (move : Move) : Type 0 where
  pub proposal : ProposalOwn schema group move.proposal
  pub sends : AllTellOwn schema move.sends

-- the round that completes a position for a read
abbrev pub SearchOwn : Schema → GroupId → Option Search → Type 0
SearchOwn schema group (Some (Filling position proposal)) = ProposalOwn schema group proposal
SearchOwn schema group _ = Unit {0}

abbrev pub StageOwn : Schema → GroupId → Stage → Type 0
StageOwn schema group (Catching through search) = SearchOwn schema group search
StageOwn schema group _ = Unit {0}

pub record ReadingOwn (schema : Schema) (group : GroupId) (r : Reading) : Type 0 where
  pub stage : StageOwn schema group r.stage

pub record ReadMoveOwn (schema : Schema) (group : GroupId) (move : ReadMove) : Type 0 where
  pub reading : ReadingOwn schema group move.reading
  pub sends : AllTellOwn schema move.sends
