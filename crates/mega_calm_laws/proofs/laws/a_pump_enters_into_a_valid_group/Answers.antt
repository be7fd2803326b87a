use Rattle.mega_calm_laws.proofs.Transacting.{pump_enters}
use Rattle.mega_calm_laws.proofs.laws.a_pump_enters_into_a_valid_group.Goals as goal

pub returns : goal.returns
returns f c h cuts now me n leader most text one numbered calm ends valid next picks fresh = pump_enters c h cuts now me text numbered ends.0 n leader one calm valid next picks fresh most ends.1
