use Rattle.std.proofs.Common.{◌≡◌, ◌++◌, drop}
use Rattle.serde_json.specs.View.{items_view}
use Rattle.mega_transcript_reader.specs.ReadingRows.{each_in, value_in}
use Rattle.mega_transcript_reader.proofs.reading_values.each_value.Given as goal

abbrev pub invariant-loop-item : goal.invariant-loop-item
invariant-loop-item l =
    l.made ++ each_in (value_in l.kind) (items_view (drop l.item-index l.item-items)) ≡ each_in (value_in l.kind) (items_view l.item-items)
