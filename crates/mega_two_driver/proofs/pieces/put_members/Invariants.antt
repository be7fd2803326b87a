use Rattle.std.proofs.Common.{◌≡◌, ◌++◌, drop}
use Rattle.serde_json.specs.View.{items_view}
use Rattle.mega_two_driver.specs.Texts.{members_text}
use Rattle.mega_two_driver.proofs.pieces.put_members.Given as goal

abbrev pub invariant-loop-number : goal.invariant-loop-number
invariant-loop-number l =
    l.out ++ members_text l.properties (drop l.number-index l.numbers) (items_view l.left)
    ≡ l.initial.out ++ members_text l.properties l.numbers (items_view l.values)
