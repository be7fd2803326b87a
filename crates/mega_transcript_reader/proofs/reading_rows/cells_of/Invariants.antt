use Rattle.std.proofs.Common.{◌≡◌, ◌+◌, ◌++◌, drop}
use Rattle.serde_json.specs.View.{view}
use Rattle.mega_transcript_reader.specs.ReadingRows.{cells_in}
use Rattle.mega_transcript_reader.proofs.reading_rows.cells_of.Given as goal

abbrev pub invariant-loop-place : goal.invariant-loop-place
invariant-loop-place l =
    l.cells ++ cells_in l.properties (l.place + 1) (drop l.place l.properties) (view l.object) ≡ cells_in l.properties 1 l.properties (view l.object)
