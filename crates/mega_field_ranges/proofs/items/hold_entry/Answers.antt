use Rattle.mega_field_ranges.proofs.EntryTexts.{entry_bytes}
use Rattle.mega_field_ranges.proofs.items.hold_entry.Goals as goal

pub returns : goal.returns
returns c = (entry_bytes c.args.entry.now c.requires c.hold.ensures).all
