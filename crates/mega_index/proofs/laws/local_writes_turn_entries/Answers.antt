use Rattle.mega_index.proofs.Ascending.{local_turns}
use Rattle.mega_index.proofs.laws.local_writes_turn_entries.Goals as goal

pub returns : goal.returns
returns c = local_turns
