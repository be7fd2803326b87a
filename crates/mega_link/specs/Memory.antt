-- What contracts see of the forms in memory.
use Rattle.std.specs.Prelude.{ℕ, List, Option}
use Rattle.mega_link.specs.Datagrams.{Datagram}

-- the items still to come, what each receive gave, and what was sent
pub record Exchange : Type 0 where
  pub coming : List (Option Datagram)
  pub taken : Option (List (Option Datagram))
  pub sent : List Datagram

-- the readings still to come, those so far, and the last one
pub record Course : Type 0 where
  pub coming : List ℕ
  pub readings : Option (List ℕ)
  pub last : ℕ
