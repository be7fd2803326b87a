-- Decisions at positions that logs have.
use Rattle.std.specs.Prelude.{◌<◌, Option, Some, None}
use Rattle.mega_rules.specs.Steps.{Decision}

-- the position of a decision, if there is one, is from 1 on
abbrev pub IsPlaced : Option Decision → Type 0
IsPlaced None = Unit {0}
IsPlaced (Some d) = 0 < d.position
