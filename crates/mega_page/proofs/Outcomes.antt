-- What holds however a call ended.
use Rattle.std.specs.Prelude.{Result, Ok, Err, OnErr}

pub however : {A E : Type 0} (X : Type 0) (ended : Result A E) → X → OnErr ended X
however X (Ok found) x = tt
however X (Err fault) x = x
