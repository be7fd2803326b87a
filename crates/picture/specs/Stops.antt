-- Why no page is written, and what is said of a call that gives a page or a stop.
use Rattle.std.specs.Prelude.{◌≡◌, ◌⊎◌, ℕ, List, ◌++◌, codes, decimal, ⊤, Result, Ok, Err}
use Rattle.mega_picture.specs.declared.drawable.Flaw.{Flaw}
use Rattle.mega_picture.specs.declared.drawable.Flaw.TheVariants.{NotSent, SentBefore, NoNode}
use Rattle.mega_picture.specs.Pages.{line_number}
use Rattle.picture.specs.declared.refusal.Refusal.{Refusal}
use Rattle.picture.specs.declared.refusal.Refusal.TheVariants.{NoTranscript, Header, NotItem, Flawed, TooMany}
use Rattle.picture.specs.declared.stop.Stop.{Stop}
use Rattle.picture.specs.declared.stop.Stop.TheVariants.{Refused, Source, Sink, NoMemory}

-- a call without a source or a sink gives this, unless memory is wanting
abbrev pub Gives : {A : Type 0} → Result A Stop → Result A Refusal → Type 0
Gives (Ok x) wanted = wanted ≡ Ok x
Gives (Err (Refused refusal)) wanted = wanted ≡ Err refusal
Gives (Err NoMemory) wanted = ⊤
Gives (Err Source) wanted = ⊥
Gives (Err Sink) wanted = ⊥

-- the status of a refusal
abbrev pub status_of : Refusal → ℕ
status_of NoTranscript = 3
status_of (Header rule) = 3
status_of (NotItem line) = 4
status_of (Flawed first flaw) = 4
status_of (TooMany first) = 4

unfoldable pub no_transcript : List ℕ
no_transcript = codes "header: no line --- stands behind it\n"

unfoldable pub rule_line : ℕ → List ℕ
rule_line rule = codes "header: it breaks rule " ++ (decimal rule ++ codes "\n")

unfoldable pub item_line : ℕ → List ℕ
item_line line = codes "line " ++ (decimal line ++ codes ": it is no line of a transcript\n")

unfoldable pub unsent_line : ℕ → ℕ → List ℕ
unsent_line line number = codes "line " ++ (decimal line ++ (codes ": message " ++ (decimal number ++ codes " was not sent before it in the lines drawn\n")))

unfoldable pub again_line : ℕ → ℕ → List ℕ
again_line line number = codes "line " ++ (decimal line ++ (codes ": message " ++ (decimal number ++ codes " was sent before\n")))

unfoldable pub node_line : ℕ → ℕ → List ℕ
node_line line node = codes "line " ++ (decimal line ++ (codes ": the header has no node " ++ (decimal node ++ codes "\n")))

unfoldable pub many_line : ℕ → ℕ → List ℕ
many_line first last = codes "more than 4000 lines: take --from " ++ (decimal first ++ (codes " --to " ++ (decimal last ++ codes "\n")))

abbrev pub flaw_line : ℕ → Flaw → List ℕ
flaw_line first (NotSent row number) = unsent_line (line_number first row) number
flaw_line first (SentBefore row number) = again_line (line_number first row) number
flaw_line first (NoNode row node) = node_line (line_number first row) node

-- the line that tells of a refusal
abbrev pub line_of : Refusal → List ℕ
line_of NoTranscript = no_transcript
line_of (Header rule) = rule_line rule
line_of (NotItem line) = item_line line
line_of (Flawed first flaw) = flaw_line first flaw
line_of (TooMany first) = many_line first (line_number first 3999)

-- the statuses of refusals, and those with which nothing is written
abbrev pub IsRefusal : ℕ → Type 0
IsRefusal status = (status ≡ 3) ⊎ (status ≡ 4)

abbrev pub IsUnwritten : ℕ → Type 0
IsUnwritten status = (status ≡ 2) ⊎ (IsRefusal status ⊎ (status ≡ 5))

abbrev pub IsStatus : ℕ → Type 0
IsStatus status = (status ≡ 0) ⊎ (IsUnwritten status ⊎ ((status ≡ 6) ⊎ (status ≡ 8)))

-- a stop of writing
abbrev pub IsWriteStop : Stop → Type 0
IsWriteStop (Refused refusal) = ⊥
IsWriteStop Source = ⊥
IsWriteStop Sink = ⊤
IsWriteStop NoMemory = ⊤
