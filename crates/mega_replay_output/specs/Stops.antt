-- Which stops a part of a replay may give.
use Rattle.mega_replay_output.specs.declared.status.Stop.{Stop}
use Rattle.mega_replay_output.specs.declared.status.Stop.TheVariants.{Header, Schedule, Refused, Limit, Source, Sink, NoMemory}

-- a fault of the source, or want of memory
abbrev pub IsReadStop : Stop → Type 0
IsReadStop Source = Unit {0}
IsReadStop NoMemory = Unit {0}
IsReadStop _ = ⊥

-- a rule that the header breaks, a fault of the source, or want of memory
abbrev pub IsHeaderStop : Stop → Type 0
IsHeaderStop (Header rule) = Unit {0}
IsHeaderStop Source = Unit {0}
IsHeaderStop NoMemory = Unit {0}
IsHeaderStop _ = ⊥

-- a fault of the sink, or want of memory
abbrev pub IsWriteStop : Stop → Type 0
IsWriteStop Sink = Unit {0}
IsWriteStop NoMemory = Unit {0}
IsWriteStop _ = ⊥

-- a line that is no event, or want of memory
abbrev pub IsEventStop : Stop → Type 0
IsEventStop (Schedule line reason) = Unit {0}
IsEventStop NoMemory = Unit {0}
IsEventStop _ = ⊥

-- a line that is no event, a refusal of the world, a line that starts a node past its last start, or want of memory
abbrev pub IsLineStop : Stop → Type 0
IsLineStop (Schedule line reason) = Unit {0}
IsLineStop (Refused line why) = Unit {0}
IsLineStop (Limit line) = Unit {0}
IsLineStop NoMemory = Unit {0}
IsLineStop _ = ⊥

-- a refusal of the world, a line that starts a node past its last start, or want of memory
abbrev pub IsWorldStop : Stop → Type 0
IsWorldStop (Refused line why) = Unit {0}
IsWorldStop (Limit line) = Unit {0}
IsWorldStop NoMemory = Unit {0}
IsWorldStop _ = ⊥

-- any stop but that of a header
abbrev pub IsScheduleStop : Stop → Type 0
IsScheduleStop (Header rule) = ⊥
IsScheduleStop _ = Unit {0}

-- it is met before anything of a line is written
abbrev pub IsBeforeWriting : Stop → Type 0
IsBeforeWriting Sink = ⊥
IsBeforeWriting NoMemory = ⊥
IsBeforeWriting _ = Unit {0}

-- want of memory
abbrev pub IsOpeningStop : Stop → Type 0
IsOpeningStop NoMemory = Unit {0}
IsOpeningStop _ = ⊥

-- a last line, which may be none, tells of the stop
abbrev pub IsTold : Stop → Type 0
IsTold Source = ⊥
IsTold Sink = ⊥
IsTold NoMemory = ⊥
IsTold _ = Unit {0}

-- no last line tells of the stop
abbrev pub IsUntold : Stop → Type 0
IsUntold (Header rule) = ⊥
IsUntold (Schedule line reason) = ⊥
IsUntold (Refused line why) = ⊥
IsUntold (Limit line) = ⊥
IsUntold _ = Unit {0}
