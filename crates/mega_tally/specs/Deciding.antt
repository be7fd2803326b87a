-- What is kept of what is decided stands so to a tape, of which the newest item stands first.
use Rattle.std.specs.Prelude.{◌≡◌, List}
use Rattle.mega_transcript.specs.declared.item.Item.{Item}
use Rattle.mega_transcript.specs.Counts.{longest}
use Rattle.mega_tally.specs.declared.decided.Decided.{Decided}
use Rattle.mega_tally.specs.Following.{Follows}

pub record Keeps (decided : Decided) (tape : List Item) : Type 0 where
  pub follows : Follows decided.logs tape
  pub groups : decided.longest.entries ≡ longest tape
