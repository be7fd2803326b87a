use Rattle.std.proofs.Common.{◌≡◌, ◌++◌, drop}
use Rattle.serde_json.specs.View.{items_view}
use Rattle.mega_schedule.specs.Rows.{each_in}
use Rattle.mega_two_driver.specs.Fits.{own_of}
use Rattle.mega_two_driver.proofs.begins.owns_of.Given as goal

abbrev pub invariant-loop-part : goal.invariant-loop-part
invariant-loop-part l = l.owns ++ each_in (own_of l.schema) (items_view (drop l.part-index l.parts)) ≡ each_in (own_of l.schema) (items_view l.parts)
