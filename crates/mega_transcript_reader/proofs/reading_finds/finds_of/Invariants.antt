use Rattle.std.proofs.Common.{◌≡◌, ◌++◌, drop}
use Rattle.serde_json.specs.View.{items_view}
use Rattle.mega_transcript_reader.specs.ReadingRows.{finds_of}
use Rattle.mega_transcript_reader.proofs.reading_finds.finds_of.Given as goal

abbrev pub invariant-loop-item : goal.invariant-loop-item
invariant-loop-item l = l.finds ++ finds_of l.schema (items_view (drop l.item-index l.item-items)) ≡ finds_of l.schema (items_view l.item-items)
