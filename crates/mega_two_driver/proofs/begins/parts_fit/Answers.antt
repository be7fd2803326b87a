use Rattle.std.proofs.Common.{drop}
use Rattle.serde_json.specs.View.{items_view}
use Rattle.mega_two_driver.specs.Begins.{parts_fit}
use Rattle.mega_two_driver.proofs.Unpaired.{none_unfit}
use Rattle.mega_two_driver.proofs.begins.parts_fit.Goals as goal

pub returns-in_default : goal.returns-in_default
returns-in_default c =
    none_unfit c.args.schema.now c.args.name.now (drop c.loop-own.own-index c.args.owns.now) c.loop-own.left.now
    (parts_fit c.args.schema.now c.args.name.now c.args.owns.now (items_view c.args.parts.now)) c.in_default.len_below c.loop-own.invariant
