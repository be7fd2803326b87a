-- The faults that a write of a backup and a reading of one can have.
use Rattle.std.specs.Prelude.{◌≡◌, ℕ, List, Result, Ok, Err}
use Rattle.mega_backup.specs.declared.fault.BackupFault.{BackupFault}
use Rattle.mega_backup.specs.declared.fault.BackupFault.TheVariants.{Short, Malformed, TooLarge, SinkFault, NoMemory}

-- the sink failed, or memory was wanting
abbrev pub IsStop : BackupFault → Type 0
IsStop (Short has) = ⊥
IsStop (Malformed line) = ⊥
IsStop (TooLarge key) = ⊥
IsStop SinkFault = Unit {0}
IsStop NoMemory = Unit {0}

-- the log is too short, or one of these
abbrev pub IsShortOrStop : BackupFault → Type 0
IsShortOrStop (Short has) = Unit {0}
IsShortOrStop (Malformed line) = ⊥
IsShortOrStop (TooLarge key) = ⊥
IsShortOrStop SinkFault = Unit {0}
IsShortOrStop NoMemory = Unit {0}

-- reading gave this value, or is refused at this line, unless memory was wanting
abbrev pub Reads : {A : Type 0} → Result A BackupFault → Result A ℕ → Type 0
Reads (Ok x) answer = answer ≡ Ok x
Reads (Err (Short has)) answer = ⊥
Reads (Err (Malformed line)) answer = answer ≡ Err line
Reads (Err (TooLarge key)) answer = ⊥
Reads (Err SinkFault) answer = ⊥
Reads (Err NoMemory) answer = Unit {0}

-- the call gave the answer, unless memory was wanting
abbrev pub Refuses : {A : Type 0} → BackupFault → Result A BackupFault → Type 0
Refuses (Short has) answer = answer ≡ Err (Short has)
Refuses (Malformed line) answer = answer ≡ Err (Malformed line)
Refuses (TooLarge key) answer = answer ≡ Err (TooLarge key)
Refuses SinkFault answer = ⊥
Refuses NoMemory answer = Unit {0}

abbrev pub GivesBy : {X A : Type 0} → (X → A) → Result X BackupFault → Result A BackupFault → Type 0
GivesBy view (Ok x) answer = answer ≡ Ok (view x)
GivesBy view (Err fault) answer = Refuses fault answer

-- a key for which it is refused
abbrev pub GivesOrKey : {X A : Type 0} → (X → A) → Result X BackupFault → Result A (List ℕ) → Type 0
GivesOrKey view (Ok x) answer = answer ≡ Ok (view x)
GivesOrKey view (Err (Short has)) answer = ⊥
GivesOrKey view (Err (Malformed line)) answer = ⊥
GivesOrKey view (Err (TooLarge key)) answer = answer ≡ Err key
GivesOrKey view (Err SinkFault) answer = ⊥
GivesOrKey view (Err NoMemory) answer = Unit {0}
