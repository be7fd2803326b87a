use Rattle.std.proofs.Common.{◌≡◌, drop}
use Rattle.serde_json.specs.View.{items_view}
use Rattle.mega_two_driver.specs.Begins.{parts_fit}
use Rattle.mega_two_driver.proofs.begins.parts_fit.Given as goal

abbrev pub invariant-loop-own : goal.invariant-loop-own
invariant-loop-own l =
    parts_fit l.schema l.name (drop l.own-index l.owns) (items_view l.left) ≡ parts_fit l.schema l.name l.owns (items_view l.parts)
