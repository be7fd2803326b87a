-- An operation that only waits where it acts, by what a voter keeps: it does not know through where it reads, or its position is not decided.
use Rattle.std.specs.Prelude.{◌≡◌}
use Rattle.mega_replica.specs.of_wal.declared.kept.Kept.{Kept}
use Rattle.mega_rules.specs.Operations.{Now, Operation, Setting}
use Rattle.mega_rules.specs.Acting.{Rests, acts, keeps}
use Rattle.mega_answers.specs.of_voter.Telling.{Tells}

abbrev pub Waits : Kept → Operation → Type 0
Waits kept o = (s : Setting) (now : Now) → Tells kept now.met → acts s now o ≡ Rests (keeps now o)
