use Rattle.std.proofs.Common.{[], refl}
use Rattle.mega_cause_laws.specs.of_run_laws.Usages.{Brought}
use Rattle.mega_answer_laws.specs.Examples.{many_words}
use Rattle.mega_answer_laws.proofs.examples.texts_mean_their_requests.Goals as goal

none_there : Brought many_words []
none_there = record { moment = []; is = refl }

pub returns : goal.returns
returns c = (
  record { brought = none_there; meant = refl },
  (
    record { brought = none_there; meant = tt },
    (
      record { brought = none_there; meant = refl },
      (
        record { brought = none_there; meant = refl },
        (
          record { brought = none_there; meant = refl },
          (record { brought = none_there; meant = refl }, (record { brought = none_there; meant = refl }, (record { brought = none_there; meant = refl }, (record { brought = none_there; meant = tt }, tt)))),
        ),
      ),
    ),
  ),
)
