use Rattle.std.proofs.Common.{◌≡◌, map, take}
use Rattle.serde_json.specs.View.{view}
use Rattle.mega_backup.specs.Spelling.{value_data}
use Rattle.mega_backup.proofs.showing.values_json.Given as goal

abbrev pub invariant-loop-value : goal.invariant-loop-value
invariant-loop-value l = map view l.made.items ≡ map value_data (take l.value-index l.values)
