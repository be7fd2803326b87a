-- How a change of several groups was driven, and what it saw where it ended as committed.
use Rattle.std.specs.Prelude.{◌≡◌, ℕ, true, length, nat_lt, List, Option, Some}
use Rattle.mega_link.specs.Datagrams.{Datagram}
use Rattle.mega_node.specs.Outside.{Outside}
use Rattle.mega_two_driver.specs.of_moves.declared.phase.Ended.TheVariants.{Committed}
use Rattle.mega_two_driver.specs.of_moves.declared.phase.Phase.{Phase}
use Rattle.mega_two_driver.specs.of_moves.declared.phase.Phase.TheVariants.{Begins, Recovers}
use Rattle.mega_two_driver.specs.declared.two.Two.{Two}
use Rattle.mega_two_driver_laws.specs.Runs.{closes, shows_made, was}
use Rattle.mega_two_turns.specs.Turns.{driven, ending, start}
use Rattle.mega_two_run_laws.specs.TurnResults.{tolds}
use Rattle.mega_two_words.specs.declared.last.Last.{Last}
use Rattle.mega_two_words.specs.Runs.{RunsTo}

-- this is said of how a change of this name, or of the input's line where there is none, was driven by requests to a node
abbrev pub Drove : ℕ → ℕ → Option (List ℕ) → Option (List ℕ) → Outside → Outside → (Last → Type 0) → Type 0
Drove number turns recover input before after Says = RunsTo number turns recover input before.readings after.readings before.taken after.taken before.sent after.sent Says

-- in these turns a change of so many parts was told that its plan is made, and of each part that it is finished
abbrev pub SawItMade : ℕ → ℕ → ℕ → Phase → Two → List (ℕ × Option Datagram) → Type 0
SawItMade number patience count from two given =
    (was shows_made count from (tolds number patience (start two) given) ≡ true)
    × ((part : ℕ) → nat_lt part count ≡ true → was (closes part) count from (tolds number patience (start two) given) ≡ true)

-- so it was where a change ended as committed: of the parts with which it began, or of those of the plan that it read
pub record SeesBefore (number : ℕ) : Type 0 where
  pub begun : (patience : ℕ) (two : Two) (given : List (ℕ × Option Datagram)) → two.phase ≡ Begins → ending (driven number patience (start two) given).two ≡ Some Committed
      → SawItMade number patience (length two.plan.parts) Begins two given
  pub recovered : (patience : ℕ) (two : Two) (given : List (ℕ × Option Datagram)) → two.phase ≡ Recovers → ending (driven number patience (start two) given).two ≡ Some Committed
      → SawItMade number patience (length (driven number patience (start two) given).two.plan.parts) Recovers two given
