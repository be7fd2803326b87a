use Rattle.mega_keys.proofs.Keys.{keys_apart}
use Rattle.mega_keys.proofs.laws.keys_are_apart.Goals as goal

pub returns : goal.returns
returns c = keys_apart
