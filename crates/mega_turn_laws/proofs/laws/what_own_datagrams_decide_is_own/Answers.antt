use Rattle.mega_turn_laws.proofs.OwnEntries.{told_own}
use Rattle.mega_turn_laws.proofs.laws.what_own_datagrams_decide_is_own.Goals as goal

pub returns : goal.returns
returns c = told_own
