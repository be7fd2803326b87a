use Rattle.std.proofs.Common.{◌≡◌, ◌++◌, drop}
use Rattle.serde_json.specs.View.{items_view}
use Rattle.mega_transcript_reader.specs.ReadingRows.{each_in}
use Rattle.mega_transcript_reader.proofs.reading_values.each_of.Given as goal

abbrev pub invariant-loop-item : goal.invariant-loop-item
invariant-loop-item g l =
    l.made ++ each_in (g.T.FromJson.told l.schema) (items_view (drop l.item-index l.item-items)) ≡ each_in (g.T.FromJson.told l.schema) (items_view l.item-items)
