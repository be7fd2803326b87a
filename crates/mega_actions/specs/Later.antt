-- The turns that an operation has left in a step once it acted.
use Rattle.std.specs.Prelude.{suc, length}
use Rattle.mega_rules.specs.Logs.{groups_of}
use Rattle.mega_rules.specs.Operations.{Now, Setting}
use Rattle.mega_rules.specs.Acting.{Next, rests_within}

abbrev pub later : Setting → Now → Next → Now
later s before = rests_within (suc (length (groups_of before.met))) s
