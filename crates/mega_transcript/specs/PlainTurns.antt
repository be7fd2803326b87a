-- Plain turns: those that are read back from their words.
use Rattle.mega_outcome.specs.declared.answer.Turn.{Turn}
use Rattle.mega_outcome.specs.declared.answer.Turn.TheVariants.{OtherGroup, BadRow, CheckFailed, NoRow, Overflow, TooLarge}
use Rattle.mega_transcript.specs.PlainNames.{IsU32, IsU64}

-- the faults of a device are no words of answers
abbrev pub IsPlainTurn : Turn → Type 0
IsPlainTurn (OtherGroup item) = IsU32 item
IsPlainTurn (BadRow item) = IsU32 item
IsPlainTurn (CheckFailed item) = IsU32 item
IsPlainTurn (NoRow item) = IsU32 item
IsPlainTurn (Overflow item) = IsU32 item
IsPlainTurn (TooLarge bytes) = IsU64 bytes
IsPlainTurn _ = ⊥
