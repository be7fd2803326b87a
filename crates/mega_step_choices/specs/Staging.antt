-- What a node's logs stage in a step: the journal's items of what was met since, the oldest first, none of them a start.
use Rattle.std.specs.Prelude.{◌≡◌, List, ◌++◌, reverse}
use Rattle.mega_propose.specs.of_wal.declared.item.JournalItem.{JournalItem}
use Rattle.mega_voter.specs.of_rules.Met.{Met}
use Rattle.mega_voter.specs.Journal.{journal_of, without_starts}

pub record Stages (staged : List JournalItem) (before met : List Met) : Type 0 where
  pub journal : journal_of met ≡ reverse staged ++ journal_of before
  pub plain : without_starts staged ≡ staged
