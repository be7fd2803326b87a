-- What the message format can hold, of a decision at a position of a group.
use Rattle.std.specs.Prelude.{Option}
use Rattle.mega_base.specs.Codec.{IsOption}
use Rattle.mega_base.specs.Names.{IsGroup}
use Rattle.mega_voter.specs.of_rules.Steps.{Decision}
use Rattle.mega_format_laws.specs.Rounds.{IsPlace, IsShort}

pub record IsDecision (d : Decision) : Type 0 where
  pub group : IsGroup d.group
  pub position : IsPlace d.position
  pub entry : IsShort d.entry

abbrev pub AreDecided : Option Decision → Type 0
AreDecided found = IsOption IsDecision found
