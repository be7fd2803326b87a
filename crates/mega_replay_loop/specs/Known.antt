-- What is said of an input, where its bytes are told, while it is read and afterwards.
use Rattle.std.specs.Prelude.{◌≡◌, ℕ, ◌<◌, ◌⊎◌, List, ◌∷◌, ◌++◌, length, Option, Ok, Err}
use Rattle.mega_cluster.specs.declared.cluster.Cluster.{Cluster}
use Rattle.mega_cluster.specs.Header.{read_of}
use Rattle.mega_io.specs.TextLines.{lines_of}
use Rattle.mega_header.specs.Known.{AreParted, Follows, Passes, TakesHeader, IfKnown}
use Rattle.mega_words.specs.declared.command.Report.{Report}
use Rattle.mega_tally.specs.declared.tally.Tally.{Tally}
use Rattle.mega_transcript.specs.declared.item.Item.{Item}
use Rattle.mega_line_events.specs.of_promises.Runs.{Happening, Standing}
use Rattle.mega_line_events.specs.of_world.declared.world.World.{World}
use Rattle.mega_replay_loop.specs.Headings.{heading_of}
use Rattle.mega_line_events.specs.Running.{StandsAfter, Proceeds}
use Rattle.mega_replay_output.specs.Texts.{IsTallied, so_far}
use Rattle.mega_replay_loop.specs.Replaying.{AreDone, AreRead, IsDone, IsBegun, RanOut, StopsAt, InputIsDone, InputIsBegun, InputIsBroken, InputIsNoEvent, InputIsRefused, InputIsPastLast, InputIsCut, InputIsFailed}

-- a line that is longer than a line may be
abbrev pub IsTooLong : Option (List ℕ) → Type 0
IsTooLong known = IfKnown known (λ known. (line : List ℕ) × (rest : List (List ℕ)) × (lines_of known ≡ line ∷ rest) × (65536 < length line))

-- a cluster that was read from the text of a header
abbrev pub IsRead : Cluster → Type 0
IsRead c = (text : List ℕ) × (read_of 1 text ≡ Ok c)

-- the header was read, and the schedule is left
abbrev pub IsHeaded : Option (List ℕ) → Option (List ℕ) → Cluster → Type 0
IsHeaded old new c =
    Passes old new (λ old new. (heading_of old ≡ Ok (c, lines_of new)) × ((text : List ℕ) × (read_of 1 text ≡ Ok c) × AreParted text (lines_of old) (lines_of new) × TakesHeader old new text))

-- the header breaks this rule, or the line `---` is missing
abbrev pub IsBroken : Option (List ℕ) → ℕ → Type 0
IsBroken known rule = IfKnown known (λ known. heading_of known ≡ Err rule)

-- what is said of a schedule
abbrev pub LeftRanOut : Report → Cluster → Option (List ℕ) → Tally → ℕ → (List ℕ → Type 0) → Type 0
LeftRanOut report c left tally count Says = IfKnown left (λ left. RanOut report c (lines_of left) tally count Says)

abbrev pub LeftIsDone : Report → Cluster → Option (List ℕ) → (List ℕ → Type 0) → Type 0
LeftIsDone report c left Says = IfKnown left (λ left. IsDone report c (lines_of left) Says)

abbrev pub LeftIsBegun : Report → Cluster → Option (List ℕ) → (List ℕ → Type 0) → Type 0
LeftIsBegun report c left Says = IfKnown left (λ left. IsBegun report c (lines_of left) Says)

-- a line of it stops the replay
abbrev pub LeftStops : Report → Cluster → Option (List ℕ) → ℕ → (List ℕ → Standing → Type 0) → (List ℕ → Type 0) → Type 0
LeftStops report c left number IsCause Says = IfKnown left (λ left. StopsAt report c (lines_of left) number IsCause Says)

-- the source failed: exactly the lines were done that the bytes spell that were read
abbrev pub LeftFails : Report → Cluster → Option (List ℕ) → Option (List ℕ) → (List ℕ → Type 0) → Type 0
LeftFails report c old new Says = Passes old new (λ old new. (lines : List (List ℕ)) × AreRead old new lines × AreDone report c lines Says)

-- the next line does
abbrev pub StopsNext : Option (List ℕ) → (List ℕ → Type 0) → Type 0
StopsNext left IsCause = IfKnown left (λ left. (line : List ℕ) × (rest : List (List ℕ)) × (lines_of left ≡ line ∷ rest) × IsCause line)

-- before a line or within it the text was cut: this is said of what was to be written before, or of that and the text of what the line added
abbrev pub CutsLine : Report → Cluster → ℕ → Option (List ℕ) → Option (List ℕ) → List ℕ → List Happening → World → (List ℕ → Type 0) → List ℕ → Type 0
CutsLine report c number now next line events world Says before =
    Says before ⊎ ((added : List Item) × Follows now next line × Proceeds c number line events world added × Says (before ++ so_far report c.schema added))

-- a line was done: its event happened, wherever the world stood, this is said of what was to be written before and the text of what the line
-- added, and that is counted where a summary is kept
pub record DoesLine (report : Report) (c : Cluster) (number : ℕ) (now next : Option (List ℕ)) (line : List ℕ) (old new : World) (was tally : Tally) (Says : List ℕ → Type 0) (before : List ℕ) : Type 0 where
  pub added : List Item
  pub follows : Follows now next line
  pub proceeds : (done : List (List ℕ)) (events : List Happening) → StandsAfter c done events old → Proceeds c number line events new added
  pub said : Says (before ++ so_far report c.schema added)
  pub tallied : (items : List Item) → IsTallied report was items → IsTallied report tally (items ++ added)

-- what is said of an input
abbrev pub InputDone : Report → Option (List ℕ) → (List ℕ → Type 0) → Type 0
InputDone report input Says = IfKnown input (λ input. InputIsDone report input Says)

abbrev pub InputBegun : Report → Option (List ℕ) → (List ℕ → Type 0) → Type 0
InputBegun report input Says = IfKnown input (λ input. InputIsBegun report input Says)

abbrev pub InputBroken : Option (List ℕ) → ℕ → (List ℕ → Type 0) → Type 0
InputBroken input rule Says = IfKnown input (λ input. InputIsBroken input rule Says)

abbrev pub InputNoEvent : Report → Option (List ℕ) → ℕ → ℕ → (List ℕ → Type 0) → Type 0
InputNoEvent report input number reason Says = IfKnown input (λ input. InputIsNoEvent report input number reason Says)

abbrev pub InputRefused : Report → Option (List ℕ) → ℕ → ℕ → (List ℕ → Type 0) → Type 0
InputRefused report input number why Says = IfKnown input (λ input. InputIsRefused report input number why Says)

abbrev pub InputPastLast : Report → Option (List ℕ) → ℕ → (List ℕ → Type 0) → Type 0
InputPastLast report input number Says = IfKnown input (λ input. InputIsPastLast report input number Says)

abbrev pub InputCut : Report → Option (List ℕ) → (List ℕ → Type 0) → Type 0
InputCut report input Says = IfKnown input (λ input. InputIsCut report input Says)

abbrev pub InputFailed : Report → Option (List ℕ) → Option (List ℕ) → (List ℕ → Type 0) → Type 0
InputFailed report old new Says = Passes old new (λ old new. InputIsFailed report old new Says)
