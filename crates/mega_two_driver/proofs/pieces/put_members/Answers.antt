use Rattle.std.proofs.Common.{◌++◌, drop}
use Rattle.serde_json.specs.View.{items_view}
use Rattle.mega_two_driver.specs.Texts.{members_text}
use Rattle.mega_two_driver.proofs.Members.{none_left}
use Rattle.mega_two_driver.proofs.pieces.put_members.Goals as goal

pub returns-in_default : goal.returns-in_default
returns-in_default c =
    none_left c.loop-number.out (c.args.out.now ++ members_text c.args.properties.now c.args.numbers.now (items_view c.args.values.now))
    c.args.properties.now (drop c.loop-number.number-index c.args.numbers.now) c.loop-number.left.now c.in_default.len_below c.loop-number.invariant
