-- What the calls answer, over rows that are looked up.
use Rattle.std.specs.Prelude.{◌≡◌, ℕ, Bool, true, false, Result, Ok, Err}
use Rattle.mega_disk.specs.VersionMaps.{Versions, row_at}
use Rattle.mega_index.specs.Rows.{Rows}
pub use Rattle.mega_index.specs.Pending.{seen}
use Rattle.mega_outcome.specs.declared.answer.Turn.{Turn}
use Rattle.mega_outcome.specs.declared.answer.Turn.TheVariants.{OtherGroup, BadRow, CheckFailed, NoRow, Overflow, TooLarge, DiskFault, Full, BadRecord, NoMemory}

-- the refusal tells of the store or of memory, and not of the transaction
abbrev pub is_outside : Turn → Bool
is_outside (OtherGroup i) = false
is_outside (BadRow i) = false
is_outside (CheckFailed i) = false
is_outside (NoRow i) = false
is_outside (Overflow i) = false
is_outside (TooLarge n) = false
is_outside DiskFault = true
is_outside (Full n) = true
is_outside (BadRecord n) = true
is_outside NoMemory = true

-- a refusal from outside is free; any other is the answer
abbrev pub Refuses : {A : Type 0} → Bool → Turn → Result A Turn → Type 0
Refuses true turn answer = Unit {0}
Refuses false turn answer = answer ≡ Err turn

-- the call gave the answer, unless it was refused from outside
abbrev pub GivesBy : {X A : Type 0} → (X → A) → Result X Turn → Result A Turn → Type 0
GivesBy view (Ok x) answer = answer ≡ Ok (view x)
GivesBy view (Err turn) answer = Refuses (is_outside turn) turn answer

abbrev pub Gives : {A : Type 0} → Result A Turn → Result A Turn → Type 0
Gives result answer = GivesBy (λ x. x) result answer

-- the rows of versions at a position
abbrev pub rows_at : Versions → ℕ → Rows
rows_at versions p key = row_at versions key p
