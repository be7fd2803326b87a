-- What the calls that read fields give.
use Rattle.std.specs.Prelude.{◌≡◌, ℕ, ◌+◌, ◌<◌, ◌≤◌, ◌⊎◌, List, ◌++◌, length, take, Result, Ok, Err, ⊤}
use Rattle.mega_base.specs.Names.{u32_text}
use Rattle.mega_base.specs.Reading.{Place, end_of, Read, number_in}
use Rattle.mega_base.specs.declared.cursor.BadByte.{BadByte}
use Rattle.mega_base.specs.declared.cursor.CursorFault.{CursorFault}
use Rattle.mega_base.specs.declared.cursor.CursorFault.TheVariants.{Short, Long}

-- the call gave what reading gives: the value, and then the new place stands behind it, or the offset of the
-- fault, and then nothing changed
abbrev pub ReadsHere : {A : Type 0} → Result A BadByte → Place → Place → Read A → Type 0
ReadsHere (Ok x) old new read = read ≡ Ok (x, new)
ReadsHere (Err fault) old new read = (read ≡ Err fault.at) × (new ≡ old)

-- the same, where a refusal may leave the cursor anywhere
abbrev pub ReadsOn : {A : Type 0} → Result A BadByte → Place → Read A → Type 0
ReadsOn (Ok x) new read = read ≡ Ok (x, new)
ReadsOn (Err fault) new read = read ≡ Err fault.at

-- four bytes are there, which spell a number above 65,536, and the offset is of the first byte that no smaller
-- number has there; or fewer bytes are left than the length, or the length and its bytes, need
abbrev pub IsBytesFault : Place → CursorFault → Type 0
IsBytesFault p (Long at number) = (65536 < number) × (take 4 p.left ≡ u32_text number) × (number_in 4 0 65536 p ≡ Err at)
IsBytesFault p (Short at) = (at ≡ end_of p)
    × ((length p.left < 4) ⊎ ((number : ℕ) × (take 4 p.left ≡ u32_text number) × (number ≤ 65536) × (length p.left < 4 + number)))
