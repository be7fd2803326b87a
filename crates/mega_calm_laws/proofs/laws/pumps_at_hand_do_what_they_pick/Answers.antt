use Rattle.mega_calm_laws.proofs.Hands.{pump_enters_at_hand, pump_handles_at_hand}
use Rattle.mega_calm_laws.proofs.laws.pumps_at_hand_do_what_they_pick.Goals as goal

pub returns-clause-enters : goal.returns-clause-enters
returns-clause-enters f = pump_enters_at_hand

pub returns-clause-handles : goal.returns-clause-handles
returns-clause-handles f = pump_handles_at_hand
