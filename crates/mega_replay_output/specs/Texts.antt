-- What a replay writes of a tape, which has its oldest item first here.
use Rattle.std.specs.Prelude.{ℕ, List, [], ◌++◌}
use Rattle.mega_words.specs.declared.command.Report.{Report}
use Rattle.mega_words.specs.declared.command.Report.TheVariants.{Transcript, Summary}
use Rattle.mega_schema.specs.declared.schema.Schema.{Schema}
use Rattle.mega_tally.specs.declared.tally.Tally.{Tally}
use Rattle.mega_tally.specs.Counting.{Counts}
use Rattle.mega_transcript.specs.declared.item.Item.{Item}
use Rattle.mega_transcript.specs.Counts.{summary_text}
use Rattle.mega_transcript.specs.Lines.{lines}

-- what it wrote so far: a transcript grows with the tape, with the names of a schema, and a summary comes at the end
abbrev pub so_far : Report → Schema → List Item → List ℕ
so_far Transcript schema items = lines schema items
so_far Summary schema items = []

-- what it adds at its end, after so many lines of the schedule
abbrev pub at_end : Report → List Item → ℕ → List ℕ
at_end Transcript items count = []
at_end Summary items count = summary_text items count

abbrev pub in_all : Report → Schema → List Item → ℕ → List ℕ
in_all report schema items count = so_far report schema items ++ at_end report items count

-- what is kept for the end: a summary has the counts of what came so far
abbrev pub IsTallied : Report → Tally → List Item → Type 0
IsTallied Transcript tally items = Unit {0}
IsTallied Summary tally items = Counts tally items
