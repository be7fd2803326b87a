-- What an operation that acted left: it came to a moment at which the replica and the work are, and to the operation that acts again there,
-- if one does.
use Rattle.std.specs.Prelude.{◌≡◌, Option}
use Rattle.mega_disk.specs.VersionMaps.{Versions}
use Rattle.mega_handler.specs.Named.{Meanings}
use Rattle.mega_rules.specs.Acting.{Next}
use Rattle.mega_rules.specs.Operations.{Now, Operation}
use Rattle.mega_actions.specs.declared.replica.Replica.{Replica}
use Rattle.mega_answers.specs.of_step_work.declared.work.Work.{Work}
use Rattle.mega_actions.specs.IsAt.{IsAt}
use Rattle.mega_answers.specs.Asked.{IsNextAbout}
use Rattle.mega_answers.specs.Pumping.{led_to}
use Rattle.mega_answers.specs.of_step_work.Working.{work_of}

pub record Acted {R V : Type 0} (version : V → Versions) (h : Meanings) (new : Replica R V) (before made : Work) (now : Now) (came : Next) (next : Option Operation) : Type 0 where
  pub after : Now
  pub stands : IsAt version h new after.met after.stored
  pub work : before ≡ work_of now → made ≡ work_of after
  pub about : IsNextAbout next
  pub leads : came ≡ led_to after next
