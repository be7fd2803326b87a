-- What the program draws of an input: the page of a window's lines, or why there is none.
use Rattle.std.specs.Prelude.{ℕ, ◌+◌, ◌-◌, nat_lt, min, if◌then◌else◌, List, [], ◌∷◌, ◌++◌, length, take, drop, Option, Some, None, Result, Ok, Err}
use Rattle.mega_base.specs.declared.values.NodeKind.{NodeKind}
use Rattle.mega_cluster.specs.declared.cluster.Cluster.{Cluster}
use Rattle.mega_io.specs.TextLines.{lines_of}
use Rattle.mega_schema.specs.declared.schema.Schema.{Schema}
use Rattle.mega_transcript.specs.declared.item.Item.{Item}
use Rattle.mega_transcript_reader.specs.ReadingItems.{parsed}
use Rattle.mega_picture.specs.declared.item_line.ItemLine.{ItemLine}
use Rattle.mega_picture.specs.declared.drawable.Flaw.{Flaw}
use Rattle.mega_picture.specs.Flaws.{flaw_of}
use Rattle.mega_picture.specs.Pages.{line_number, page}
use Rattle.picture.specs.declared.refusal.Refusal.{Refusal}
use Rattle.picture.specs.declared.refusal.Refusal.TheVariants.{NoTranscript, NotItem, Flawed, TooMany}
use Rattle.picture.specs.declared.words.Window.{Window}
use Rattle.picture.specs.Inputs.{cluster_of, mark_place}

infixl 10 ◌>>=◌
abbrev pub ◌>>=◌ : {A B : Type 0} → Result A Refusal → (A → Result B Refusal) → Result B Refusal
(Ok x) >>= f = f x
(Err refusal) >>= f = Err refusal

abbrev pub told_with : List ℕ → ℕ → Result Item ℕ → Result ItemLine Refusal
told_with line number (Ok item) = Ok (record { line = line; item = item })
told_with line number (Err at) = Err (NotItem number)

-- the item that a line of this number tells
unfoldable pub told_of : Schema → ℕ → List ℕ → Result ItemLine Refusal
told_of schema number line = told_with line number (parsed schema (line ++ 10 ∷ []))

abbrev pub joined : ItemLine → Result (List ItemLine) Refusal → Result (List ItemLine) Refusal
joined one rest = rest >>= λ told. Ok (one ∷ told)

-- the items of the lines from a row on, or the first line that tells none
abbrev pub told_from : Schema → ℕ → ℕ → List (List ℕ) → Result (List ItemLine) Refusal
told_from schema first row [] = Ok []
told_from schema first row (line ∷ lines) = told_of schema (line_number first row) line >>= λ one. joined one (told_from schema first (row + 1) lines)

abbrev pub page_unless : List NodeKind → ℕ → List ItemLine → Option Flaw → Result (List ℕ) Refusal
page_unless nodes first told None = Ok (page nodes first told)
page_unless nodes first told (Some flaw) = Err (Flawed first flaw)

-- the page of items that can be drawn
unfoldable pub page_of : List NodeKind → ℕ → List ItemLine → Result (List ℕ) Refusal
page_of nodes first told = page_unless nodes first told (flaw_of (min (length nodes) 255) told)

-- the lines of a window
unfoldable pub window_lines : Window → List (List ℕ) → List (List ℕ)
window_lines window lines = take (window.to - (window.from - 1)) (drop (window.from - 1) lines)

-- the page of these lines, at most 4,000
unfoldable pub drawn : Cluster → ℕ → List (List ℕ) → Result (List ℕ) Refusal
drawn cluster first lines =
    if nat_lt 4000 (length lines) then Err (TooMany first) else (told_from cluster.schema first 0 lines >>= λ told. page_of cluster.nodes first told)

-- of an input's lines, of which the one in this place is `---`
abbrev pub drawing_at : Window → List (List ℕ) → Option ℕ → Result (List ℕ) Refusal
drawing_at window lines None = Err NoTranscript
drawing_at window lines (Some place) = cluster_of (take place lines) >>= λ cluster. drawn cluster window.from (window_lines window (drop (place + 1) lines))

unfoldable pub drawing_of : Window → List ℕ → Result (List ℕ) Refusal
drawing_of window input = drawing_at window (lines_of input) (mark_place (lines_of input))
