use Rattle.std.proofs.Common.{◌≡◌, map, take}
use Rattle.serde_json.specs.View.{view}
use Rattle.mega_transcript.proofs.showing.list.Given as goal

abbrev pub invariant-loop-item : goal.invariant-loop-item
invariant-loop-item g l = map view l.made.items ≡ map (g.T.Show.shows l.schema) (take l.item-index l.items)
