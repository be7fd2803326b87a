-- In a replay each answer has its cause, under the handlers that the store brings: each event has these.
use Rattle.std.proofs.Common.{◌≡◌, List, [], ◌∷◌, sym}
use Rattle.mega_cluster.specs.declared.cluster.Cluster.{Cluster}
use Rattle.mega_meanings.specs.BuiltIn.{built_in}
use Rattle.mega_transcript.specs.declared.item.Item.{Item}
use Rattle.mega_shown_laws.specs.of_promises.Runs.{Happening, IsRun}
use Rattle.mega_shown_laws.specs.of_run_laws.Usages.{Fits}
use Rattle.mega_shown_laws.specs.of_run_laws.Justified.{Each}
use Rattle.mega_shown_laws.proofs.of_answer_laws.Runs.{run_causes}
use Rattle.mega_line_events.specs.Meanings.{usage}
use Rattle.mega_line_events.specs.Running.{HaveCauses}

served : (c : Cluster) (events : List Happening) → Fits (usage c.schema) events → Each (λ (one : Happening). one.handlers ≡ built_in) events
served c [] fits = tt
served c (one ∷ events) fits = (sym fits.0.brought.is, served c events fits.1)

pub run_caused : (c : Cluster) (events : List Happening) (tape : List Item) → IsRun c built_in events tape → Fits (usage c.schema) events → HaveCauses c tape
run_caused c events tape run fits op answer before stood =
    run_causes c (usage c.schema) built_in built_in events tape run fits (served c events fits) op answer before stood
