use Rattle.std.proofs.Common.{subst, sym}
use Rattle.mega_field_ranges.specs.Held.{HoldsItem}
use Rattle.mega_field_ranges.proofs.items.hold_item.Goals as goal

pub returns-in-Unsent : goal.returns-in-Unsent
returns-in-Unsent c = subst HoldsItem (sym c.in-Unsent.is) (c.hold.ensures, c.hold_message.ensures)

pub returns-in-Sent : goal.returns-in-Sent
returns-in-Sent c = subst HoldsItem (sym c.in-Sent.is) (c.hold-in-Sent.ensures, c.hold_message-in-Sent.ensures)
