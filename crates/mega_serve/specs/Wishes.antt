-- What a client's object asks of the node that serves it.
use Rattle.std.specs.Prelude.{ℕ, List, Result, Ok, Err}
use Rattle.mega_schema.specs.declared.schema.Schema.{Schema}
use Rattle.mega_schedule.specs.declared.asking.Ask.{Ask}
use Rattle.mega_schedule.specs.Asking.{asked_of}
use Rattle.mega_promises.specs.Served.{Asks, Refuses, Wish}

abbrev pub wish_in : Result Ask ℕ → Wish
wish_in (Ok asked) = Asks asked.request asked.text
wish_in (Err reason) = Refuses reason

abbrev pub wish_of : Schema → ℕ → List ℕ → Wish
wish_of schema me json = wish_in (asked_of schema me json)
