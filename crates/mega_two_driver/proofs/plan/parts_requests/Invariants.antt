use Rattle.std.proofs.Common.{◌≡◌, ◌++◌, drop}
use Rattle.serde_json.specs.View.{items_view}
use Rattle.mega_two_driver.specs.Texts.{parts_requests}
use Rattle.mega_two_driver.proofs.plan.parts_requests.Given as goal

abbrev pub invariant-loop-part : goal.invariant-loop-part
invariant-loop-part l = l.made ++ parts_requests l.schema l.name (items_view (drop l.part-index l.parts)) ≡ parts_requests l.schema l.name (items_view l.parts)
