use Rattle.mega_field_ranges.proofs.MessageTexts.{message_bytes}
use Rattle.mega_field_ranges.proofs.items.hold_message.Goals as goal

pub returns : goal.returns
returns c = (message_bytes c.args.message.now c.requires c.hold.ensures).all
