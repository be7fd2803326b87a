use Rattle.mega_calm_laws.proofs.Transacting.{pump_handles}
use Rattle.mega_calm_laws.proofs.laws.a_pump_handles_in_a_valid_group.Goals as goal

pub returns : goal.returns
returns f c h cuts now me n leader most text group message numbered calm ends valid next picks oldest there = pump_handles c h cuts now me text numbered ends.0 n leader group message calm valid next picks oldest there most ends.1
