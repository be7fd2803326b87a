use Rattle.mega_keys.proofs.Keys.{key_read_back}
use Rattle.mega_keys.proofs.laws.keys_are_read_back.Goals as goal

pub returns : goal.returns
returns c = key_read_back
