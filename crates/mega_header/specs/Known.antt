-- What is said of an input, where its bytes are told, while its header is read and afterwards.
use Rattle.std.specs.Prelude.{◌≡◌, ℕ, ◌+◌, ◌≤◌, ◌⊎◌, List, [], ◌∷◌, ◌++◌, length, Option, Some, None, Err}
use Rattle.mega_io.specs.TextLines.{ended_lines, lines_of}
use Rattle.mega_header.specs.Parts.{cluster_in, lines_behind, text_before}

-- this is so of what is told
abbrev pub IfKnown : Option (List ℕ) → (List ℕ → Type 0) → Type 0
IfKnown None IsSo = Unit {0}
IfKnown (Some known) IsSo = IsSo known

-- what is told before a part was read and after: this holds between the two
abbrev pub Passes : Option (List ℕ) → Option (List ℕ) → (List ℕ → List ℕ → Type 0) → Type 0
Passes None new Holds = Unit {0}
Passes (Some old) None Holds = ⊥
Passes (Some old) (Some new) Holds = Holds old new

-- these bytes were read, in which this line ended with a line feed, or with the input
abbrev pub TakesLine : List ℕ → List ℕ → List ℕ → Type 0
TakesLine old new line = (read : List ℕ) × (old ≡ read ++ new) × (((more : List ℕ) → ended_lines (read ++ more) ≡ line ∷ ended_lines more) ⊎ (new ≡ []))

-- so many bytes were read; the last of them may be missing at the end
abbrev pub Takes : Option (List ℕ) → Option (List ℕ) → ℕ → Type 0
Takes old new count = Passes old new (λ old new. (length old ≡ count + length new) ⊎ ((new ≡ []) × (length old ≤ count)))

-- a line was read
abbrev pub Follows : Option (List ℕ) → Option (List ℕ) → List ℕ → Type 0
Follows old new line = Passes old new (λ old new. (lines_of old ≡ line ∷ lines_of new) × TakesLine old new line)

abbrev pub Ends : Option (List ℕ) → Type 0
Ends known = IfKnown known (λ known. lines_of known ≡ [])

-- whatever stands behind this text, it belongs to a header, and the line `---` is behind it
abbrev pub IsOfHeader : List ℕ → Type 0
IsOfHeader text = (more : List ℕ) → (text_before (ended_lines (text ++ more)) ≡ text ++ text_before (ended_lines more)) × (lines_behind (ended_lines (text ++ more)) ≡ lines_behind (ended_lines more))

-- the input begins with a header's text and its lines, none of which is the line `---`, and then comes what is left
abbrev pub HasFront : Option (List ℕ) → Option (List ℕ) → List ℕ → Type 0
HasFront first left text = Passes first left (λ first left. (first ≡ text ++ left) × (text_before (lines_of first) ≡ text ++ text_before (lines_of left)) × (lines_behind (lines_of first) ≡ lines_behind (lines_of left)) × IsOfHeader text)

-- the lines are those of a header with this text, the line `---` and a schedule
abbrev pub AreParted : List ℕ → List (List ℕ) → List (List ℕ) → Type 0
AreParted text lines schedule = (text_before lines ≡ text) × (lines_behind lines ≡ Some schedule)

-- so are those that ended, whatever stands behind what was read, unless the input ended with the line `---`
abbrev pub TakesHeader : List ℕ → List ℕ → List ℕ → Type 0
TakesHeader old new text = (read : List ℕ) × (old ≡ read ++ new) × (((more : List ℕ) → AreParted text (ended_lines (read ++ more)) (ended_lines more)) ⊎ (new ≡ []))

-- this text stands before the line `---`, and the schedule is left
abbrev pub HasHeader : Option (List ℕ) → Option (List ℕ) → List ℕ → Type 0
HasHeader first left text = Passes first left (λ first left. AreParted text (lines_of first) (lines_of left) × TakesHeader first left text)

-- that line is missing, and this is the whole input
abbrev pub HasNoMark : Option (List ℕ) → List ℕ → Type 0
HasNoMark first text = IfKnown first (λ first. (first ≡ text) × (lines_behind (lines_of first) ≡ None))

-- the source failed before the line `---` was read
abbrev pub HeaderFails : Option (List ℕ) → Option (List ℕ) → Type 0
HeaderFails old new = Passes old new (λ old new. (read : List ℕ) × (old ≡ read ++ new) × (lines_behind (ended_lines read) ≡ None))

-- the header breaks this rule, of those for at least so many nodes
abbrev pub Breaks : ℕ → Option (List ℕ) → ℕ → Type 0
Breaks least known rule = IfKnown known (λ known. cluster_in least known ≡ Err rule)
