use Rattle.mega_valid_laws.proofs.Joint.{valid_has}
use Rattle.mega_valid_laws.proofs.laws.a_valid_group_has_what_was_settled.Goals as goal

pub returns : goal.returns
returns c = valid_has
