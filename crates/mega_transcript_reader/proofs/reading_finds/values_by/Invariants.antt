use Rattle.std.proofs.Common.{◌≡◌, ◌++◌, drop}
use Rattle.serde_json.specs.View.{items_view}
use Rattle.mega_transcript_reader.specs.ReadingRows.{values_by}
use Rattle.mega_transcript_reader.proofs.reading_finds.values_by.Given as goal

abbrev pub invariant-loop-kind : goal.invariant-loop-kind
invariant-loop-kind l = l.made ++ values_by (drop l.kind-index l.kinds) (items_view l.left) ≡ values_by l.kinds (items_view l.items)
