use Rattle.mega_plain_laws.proofs.Plain.{items_plain}
use Rattle.mega_plain_laws.proofs.laws.items_are_plain.Goals as goal

pub returns : goal.returns
returns c = items_plain
