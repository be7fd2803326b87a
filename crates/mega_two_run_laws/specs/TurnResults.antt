-- What a change is told in its turns, the newest first: that a request was lost, or what the reply to it tells.
use Rattle.std.specs.Prelude.{ℕ, if◌then◌else◌, List, [], ◌∷◌, ◌++◌, Option, Some, None}
use Rattle.mega_link.specs.Datagrams.{Datagram}
use Rattle.mega_two_driver.specs.of_moves.declared.request_result.RequestResult.{RequestResult}
use Rattle.mega_two_driver.specs.of_moves.declared.request_result.RequestResult.TheVariants.{Lost}
use Rattle.mega_two_driver.specs.declared.two.Two.{Two}
use Rattle.mega_two_driver.specs.Driver.{told_in}
use Rattle.mega_two_turns.specs.declared.driving.Driving.{Driving}
use Rattle.mega_two_turns.specs.Messages.{reply_in}
use Rattle.mega_two_turns.specs.Turns.{driven, is_due, proceeds_out}

abbrev pub lost_in : ℕ → ℕ → Option ℕ → List RequestResult
lost_in patience now None = []
lost_in patience now (Some since) = if is_due patience since now then Lost ∷ [] else []

abbrev pub told_by : Two → Option (List ℕ) → List RequestResult
told_by two None = []
told_by two (Some text) = told_in two.plan.name two.phase text ∷ []

abbrev pub answers : ℕ → Two → ℕ → Option ℕ → Option Datagram → List RequestResult
answers node two token None got = []
answers node two token (Some since) got = told_by two (reply_in node token got)

-- in one turn
abbrev pub told_once : ℕ → ℕ → Driving → ℕ × Option Datagram → List RequestResult → List RequestResult
told_once node patience d one before =
    answers node (proceeds_out patience d one.0).two (proceeds_out patience d one.0).token (proceeds_out patience d one.0).since one.1 ++ (lost_in patience one.0 d.since ++ before)

abbrev pub tolds : ℕ → ℕ → Driving → List (ℕ × Option Datagram) → List RequestResult
tolds node patience first [] = []
tolds node patience first (one ∷ before) = told_once node patience (driven node patience first before) one (tolds node patience first before)
