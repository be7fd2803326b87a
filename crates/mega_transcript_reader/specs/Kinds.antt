-- The kinds of lines that go on behind their first word.
use Rattle.std.specs.Prelude.{ℕ, List, codes, Option, Some, None, if◌then◌else◌}
use Rattle.mega_syntax.specs.Names.{same}
use Rattle.mega_transcript_reader.specs.declared.kinds.LineKind.{LineKind}
use Rattle.mega_transcript_reader.specs.declared.kinds.LineKind.TheVariants.{Start, Unsent, Tick, Begin, Taken, Dropped, Sent, Grant, Lapse, Counts, Forgets, Serving, Lost, Valid, Invalid, Decide, Apply, Answer, Crash}

-- the lines of events and of messages
abbrev pub event_of : List ℕ → Option LineKind
event_of word =
    if same word (codes "start") then Some Start
    else (if same word (codes "unsent") then Some Unsent
    else (if same word (codes "tick") then Some Tick
    else (if same word (codes "begin") then Some Begin
    else (if same word (codes "taken") then Some Taken
    else (if same word (codes "dropped") then Some Dropped
    else (if same word (codes "sent") then Some Sent
    else (if same word (codes "answer") then Some Answer
    else (if same word (codes "crash") then Some Crash else None))))))))

-- the lines of coordinators and cells, and of logs
abbrev pub change_of : List ℕ → Option LineKind
change_of word =
    if same word (codes "grant") then Some Grant
    else (if same word (codes "lapse") then Some Lapse
    else (if same word (codes "counts") then Some Counts
    else (if same word (codes "forgets") then Some Forgets
    else (if same word (codes "serving") then Some Serving
    else (if same word (codes "lost") then Some Lost
    else (if same word (codes "valid") then Some Valid
    else (if same word (codes "invalid") then Some Invalid
    else (if same word (codes "decide") then Some Decide
    else (if same word (codes "apply") then Some Apply else None)))))))))

abbrev pub or_change : List ℕ → Option LineKind → Option LineKind
or_change word (Some kind) = Some kind
or_change word None = change_of word

abbrev pub kind_of : List ℕ → Option LineKind
kind_of word = or_change word (event_of word)
