-- Lists of records in memory, by the lists that they were.
use Rattle.std.specs.Prelude.{◌≡◌, ℕ, List, Vec}
use Rattle.std.specs.declared.alloc.Global.{Global}

-- a crash leaves the list as it is
abbrev pub Keeps : Vec (List ℕ) Global → List (List ℕ) → Type 0
Keeps records found = found ≡ records.items
