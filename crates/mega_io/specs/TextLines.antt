-- The lines of a text of bytes: each ends with a line feed, the last one maybe with the text.
use Rattle.std.specs.Prelude.{◌≡◌, ◌≢◌, ℕ, ◌+◌, ◌<◌, ◌≤◌, ◌==◌, Bool, true, false, if◌then◌else◌, List, [], ◌∷◌, ◌++◌, length, All, Option}
use Rattle.std.specs.Io.KnownBytes.{Consumes, IsAtEnd}
use Rattle.mega_io.specs.declared.lines.Ended.{Ended}
use Rattle.mega_io.specs.declared.lines.Ended.TheVariants.{Feed, Input, Long}

-- no byte is a line feed
abbrev pub IsUnbroken : List ℕ → Type 0
IsUnbroken bytes = All (λ byte. byte ≢ 10) bytes

-- a line, as far as it was read, which is none at the text's end
abbrev pub close_line : List ℕ → List (List ℕ)
close_line [] = []
close_line (byte ∷ bytes) = (byte ∷ bytes) ∷ []

-- the lines of a text of which this much of the first line was read
abbrev pub lines_after : List ℕ → List ℕ → List (List ℕ)
lines_after front [] = close_line front
lines_after front (byte ∷ bytes) = if byte == 10 then front ∷ lines_after [] bytes else lines_after (front ++ byte ∷ []) bytes

abbrev pub lines_of : List ℕ → List (List ℕ)
lines_of text = lines_after [] text

-- the lines of a text that end with a line feed, where this much of the first line was read
abbrev pub ended_after : List ℕ → List ℕ → List (List ℕ)
ended_after front [] = []
ended_after front (byte ∷ bytes) = if byte == 10 then front ∷ ended_after [] bytes else ended_after (front ++ byte ∷ []) bytes

abbrev pub ended_lines : List ℕ → List (List ℕ)
ended_lines text = ended_after [] text

-- a line was read off the known bytes: up to a line feed, or up to their end, or further than a line may go
abbrev pub ReadsLine : ℕ → Option (List ℕ) → Option (List ℕ) → List ℕ → Ended → Type 0
ReadsLine most old new line Feed = Consumes old new (line ++ 10 ∷ []) × IsUnbroken line × (length line ≤ most)
ReadsLine most old new line Input = Consumes old new line × IsAtEnd new × IsUnbroken line × (length line ≤ most)
ReadsLine most old new line Long = ((more : List ℕ) × Consumes old new (line ++ more)) × IsUnbroken line × (most < length line)

-- a fault came within a line: the bytes that were read before it are those of the line so far, and none waits
abbrev pub BreaksOff : Option (List ℕ) → List ℕ → Option (List ℕ) → List ℕ → Type 0
BreaksOff old waiting new line = Consumes old new line × IsUnbroken line × (waiting ≡ [])

-- the line grew by a front of these bytes, up to a line feed where there is one, and else by all
abbrev pub ReadsPart : List ℕ → List ℕ → List ℕ → List ℕ → Bool → Type 0
ReadsPart old new before after true = (part : List ℕ) × (after ≡ before ++ part) × (old ≡ part ++ 10 ∷ new) × IsUnbroken part
ReadsPart old new before after false = (after ≡ before ++ old) × (new ≡ []) × IsUnbroken old
