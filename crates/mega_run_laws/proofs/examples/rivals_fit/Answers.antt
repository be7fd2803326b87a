use Rattle.std.proofs.Common.{[], refl}
use Rattle.mega_run_laws.specs.Usages.{Brought}
use Rattle.mega_tape_laws.specs.Examples.{asks_put}
use Rattle.mega_run_laws.proofs.examples.rivals_fit.Goals as goal

none_there : Brought asks_put []
none_there = record { moment = []; is = refl }

pub returns : goal.returns
returns c = (record { brought = none_there; meant = refl }, (record { brought = none_there; meant = refl }, (record { brought = none_there; meant = tt }, (record { brought = none_there; meant = tt }, (record { brought = none_there; meant = tt }, tt)))))
