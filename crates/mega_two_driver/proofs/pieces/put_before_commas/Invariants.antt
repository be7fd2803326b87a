use Rattle.std.proofs.Common.{◌≡◌, ◌++◌, drop}
use Rattle.serde_json.specs.View.{items_view}
use Rattle.mega_two_driver.specs.Texts.{before_commas}
use Rattle.mega_two_driver.proofs.pieces.put_before_commas.Given as goal

abbrev pub invariant-loop-value : goal.invariant-loop-value
invariant-loop-value l = l.out ++ before_commas (items_view (drop l.value-index l.values)) ≡ l.initial.out ++ before_commas (items_view l.values)
