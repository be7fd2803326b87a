-- The last line of a replay, which tells of its stop.
use Rattle.std.specs.Prelude.{ℕ, List, [], ◌++◌, codes, decimal}
use Rattle.mega_replay_output.specs.declared.status.Stop.{Stop}
use Rattle.mega_replay_output.specs.declared.status.Stop.TheVariants.{Header, Schedule, Refused, Limit, Source, Sink, NoMemory}
pub use Rattle.mega_transcript.specs.Words.{header_line}

-- this line is no event, for this reason
abbrev pub schedule_line : ℕ → ℕ → List ℕ
schedule_line line reason = codes "refused " ++ (decimal line ++ (codes " schedule " ++ (decimal reason ++ codes "\n")))

-- the world refuses this line, for this reason
abbrev pub refused_line : ℕ → ℕ → List ℕ
refused_line line why = codes "refused " ++ (decimal line ++ (codes " world " ++ (decimal why ++ codes "\n")))

-- no line tells of a start past the last one
abbrev pub limit_line : ℕ → List ℕ
limit_line line = []

-- the last line of a stop, where it has one
abbrev pub last_line : Stop → List ℕ
last_line (Header rule) = header_line rule
last_line (Schedule line reason) = schedule_line line reason
last_line (Refused line why) = refused_line line why
last_line (Limit line) = limit_line line
last_line Source = []
last_line Sink = []
last_line NoMemory = []
