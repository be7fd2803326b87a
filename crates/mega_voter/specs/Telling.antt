-- When what a voter keeps tells what its node met.
use Rattle.std.specs.Prelude.{◌≡◌, ◌<◌, ◌≤◌, List, [], ◌∷◌}
use Rattle.mega_wire.specs.declared.message.Body.{Body}
use Rattle.mega_wire.specs.declared.message.Body.TheVariants.{Accepted, Promise}
use Rattle.mega_wal.specs.declared.kept.Kept.{Kept}
use Rattle.mega_wal.specs.Acceptor.{best}
use Rattle.mega_wal.specs.Kept.{Represents}
use Rattle.mega_rules.specs.Met.{Met, Starts, Sends, Unsends, Decides}
use Rattle.mega_rules.specs.Clock.{start_of}
use Rattle.mega_rules.specs.Voting.{acts, prepared, voted}
use Rattle.mega_voter.specs.Journal.{journal_of}

-- a promise reports the best vote that was made before
abbrev pub IsHonest : List Met → Body → Type 0
IsHonest before (Promise op group position ballot report) = report ≡ best (acts before group position.0)
IsHonest before _ = Unit {0}

-- what may come next: a start of no lower number, a message that is honest, and a decision at a position from 1 on
abbrev pub MayFollow : List Met → Met → Type 0
MayFollow before (Starts start) = start_of before ≤ start
MayFollow before (Sends message) = IsHonest before message.body
MayFollow before (Unsends message) = IsHonest before message.body
MayFollow before (Decides group position entry) = 0 < position
MayFollow before _ = Unit {0}

abbrev pub AreHonest : List Met → Type 0
AreHonest [] = Unit {0}
AreHonest (one ∷ before) = MayFollow before one × AreHonest before

-- what is kept is what the journal of this says, and the count of starts is the number of the last one
pub record Tells (kept : Kept) (met : List Met) : Type 0 where
  pub journal : Represents kept (journal_of met)
  pub honest : AreHonest met
  pub start : kept.starts ≡ start_of met

-- a promise and a vote are what the voter's rule answers
abbrev pub IsAnswer : List Met → Body → Type 0
IsAnswer met (Promise op group position ballot report) = prepared (acts met group position.0) op group position ballot ≡ Promise op group position ballot report
IsAnswer met (Accepted op group position ballot entry) = voted (acts met group position.0) op group position ballot entry ≡ Accepted op group position ballot entry
IsAnswer met _ = Unit {0}
