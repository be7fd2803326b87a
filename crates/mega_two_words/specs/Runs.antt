-- How a run of the word `two` ends, by its start and its turns.
use Rattle.std.specs.Prelude.{◌≡◌, ℕ, List, Option, Result, Ok, Err}
use Rattle.mega_header.specs.Known.{IfKnown}
use Rattle.mega_link.specs.Datagrams.{Datagram}
use Rattle.mega_two_turns.specs.declared.driving.Driving.{Driving}
use Rattle.mega_two_turns.specs.Turns.{Drives, IsWhole, ending, start as started}
use Rattle.mega_two_words.specs.declared.last.Last.{Last}
use Rattle.mega_two_words.specs.declared.start.Start.{Start}
use Rattle.mega_two_words.specs.Inputs.{starts}
use Rattle.mega_two_words.specs.declared.last.Last.TheVariants.{Ended}

-- turns were made from the start on, and the last line tells how the change ended
pub record Ends (node turns : ℕ) (start : Start) (read more_read : Option (List ℕ)) (taken more_taken : Option (List (Option Datagram))) (sent more_sent : Option (List Datagram)) (last : Last) : Type 0 where
  pub given : List (ℕ × Option Datagram)
  pub end : Driving
  pub drives : Drives node start.cluster.patience (started start.two) end read more_read taken more_taken sent more_sent given
  pub whole : IsWhole turns end.two given
  pub tells : last ≡ Ended end.two.plan.name (ending end.two)

-- so it is where there is a change to drive; else the last line says why there is none
abbrev pub EndsBy : ℕ → ℕ → Result Start Last → Option (List ℕ) → Option (List ℕ) → Option (List (Option Datagram)) → Option (List (Option Datagram)) → Option (List Datagram) → Option (List Datagram) → Last → Type 0
EndsBy node turns (Ok start) read more_read taken more_taken sent more_sent last = Ends node turns start read more_read taken more_taken sent more_sent last
EndsBy node turns (Err first) read more_read taken more_taken sent more_sent last = last ≡ first

-- this is how the run ended, by its input
pub record IsRun (node turns : ℕ) (name : Option (List ℕ)) (known : Option (List ℕ)) (read more_read : Option (List ℕ)) (taken more_taken : Option (List (Option Datagram))) (sent more_sent : Option (List Datagram)) (last : Last) : Type 0 where
  pub first : Result Start Last
  pub starts_so : IfKnown known (λ input. first ≡ starts node name input)
  pub ends_so : EndsBy node turns first read more_read taken more_taken sent more_sent last

-- and this is said of it
pub record RunsTo (node turns : ℕ) (name : Option (List ℕ)) (known : Option (List ℕ)) (read more_read : Option (List ℕ)) (taken more_taken : Option (List (Option Datagram))) (sent more_sent : Option (List Datagram)) (Says : Last → Type 0) : Type 0 where
  pub last : Last
  pub is : IsRun node turns name known read more_read taken more_taken sent more_sent last
  pub said : Says last
