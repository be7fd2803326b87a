-- The statuses with which a replay ends.
use Rattle.std.specs.Prelude.{◌≡◌, ◌⊎◌, ℕ}
use Rattle.mega_replay_output.specs.declared.status.Stop.{Stop}
use Rattle.mega_replay_output.specs.declared.status.Stop.TheVariants.{Header, Schedule, Refused, Limit, Source, Sink, NoMemory}

-- the status of a stop
abbrev pub status_of : Stop → ℕ
status_of (Header rule) = 3
status_of (Schedule line reason) = 4
status_of (Refused line why) = 4
status_of Source = 5
status_of Sink = 6
status_of NoMemory = 8
status_of (Limit line) = 10

-- a call failed, or memory was wanting
abbrev pub IsCutStatus : ℕ → Type 0
IsCutStatus status = (status ≡ 5) ⊎ (status ≡ 6) ⊎ (status ≡ 8)

-- the statuses with which a replay ends
abbrev pub IsReplayStatus : ℕ → Type 0
IsReplayStatus status = (status ≡ 0) ⊎ (status ≡ 3) ⊎ (status ≡ 4) ⊎ (status ≡ 10) ⊎ IsCutStatus status
