use Rattle.mega_keys.proofs.Keys.{keys_ordered}
use Rattle.mega_keys.proofs.laws.keys_are_ordered.Goals as goal

pub returns : goal.returns
returns c = keys_ordered
