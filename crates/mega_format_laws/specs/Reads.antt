-- What the message format can hold, of a current read of a group.
use Rattle.std.specs.Prelude.{ℕ, ◌≤◌, Option, Some, None}
use Rattle.mega_base.specs.Names.{IsGroup}
use Rattle.mega_voter.specs.of_rules.of_read.declared.reading.Reader.{Reader}
use Rattle.mega_voter.specs.of_rules.of_read.declared.reading.Search.{Search}
use Rattle.mega_voter.specs.of_rules.of_read.declared.reading.Search.TheVariants.{Fetching, Filling}
use Rattle.mega_voter.specs.of_rules.of_read.declared.reading.Stage.{Stage}
use Rattle.mega_voter.specs.of_rules.of_read.declared.reading.Stage.TheVariants.{Polling, Catching}
use Rattle.mega_voter.specs.of_rules.of_read.declared.reading.Reading.{Reading}
use Rattle.mega_voter.specs.of_rules.of_read.declared.reading.Move.{Move}
use Rattle.mega_format_laws.specs.Rounds.{AreMessages, Each, IsMember, IsPlace, IsProposal, IsSender}

pub record IsReader (who : Reader) : Type 0 where
  pub op : IsSender who.op
  pub group : IsGroup who.group
  pub voters : Each IsMember who.voters
  pub full : Each IsMember who.full
  pub cells : who.cells ≤ 5

-- positions through which a read reads, of a top also 0
abbrev pub IsTop : ℕ → Type 0
IsTop n = n ≤ 1000000

abbrev pub IsSearch : Option Search → Type 0
IsSearch None = Unit {0}
IsSearch (Some (Fetching position denied sent)) = IsPlace position
IsSearch (Some (Filling position proposal)) = IsPlace position × IsProposal proposal

abbrev pub IsStage : Stage → Type 0
IsStage (Polling heard best sent) = IsTop best
IsStage (Catching through search) = IsTop through × IsSearch search

pub record IsReading (r : Reading) : Type 0 where
  pub stage : IsStage r.stage

pub record IsReadMove (move : Move) : Type 0 where
  pub reading : IsReading move.reading
  pub sends : AreMessages move.sends
