-- What the law asks of a run's events: each operation begins with a text that means its request. Of their handlers it asks nothing.
use Rattle.std.specs.Prelude.{ℕ, List, [], Option}
use Rattle.mega_outcome.specs.declared.request.Request.{Request}
use Rattle.mega_run_laws.specs.of_promises.Runs.{Happening}
use Rattle.mega_run_laws.specs.Justified.{Each}
use Rattle.mega_run_laws.specs.Usages.{IsMeant}

abbrev pub AreMeant : (List ℕ → Option Request) → List Happening → Type 0
AreMeant meaning events = Each (λ (one : Happening). IsMeant (record { meaning = meaning; handlers = λ moment. [] }) one.event) events
