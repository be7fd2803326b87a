use Rattle.mega_shown_laws.proofs.Plain.{every_plain}
use Rattle.mega_shown_laws.proofs.laws.every_item_is_plain.Goals as goal

pub returns : goal.returns
returns c = every_plain
