use Rattle.mega_calm_laws.proofs.Numbering.{run_numbered}
use Rattle.mega_calm_laws.proofs.laws.messages_are_numbered.Goals as goal

pub returns : goal.returns
returns f c cuts first events = run_numbered c cuts first events
