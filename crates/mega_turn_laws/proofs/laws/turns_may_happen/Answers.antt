use Rattle.mega_turn_laws.proofs.Turns.{may_serve}
use Rattle.mega_turn_laws.proofs.laws.turns_may_happen.Goals as goal

pub returns : goal.returns
returns g c = may_serve g.S.Steps
