use Rattle.mega_coordinator.proofs.Epochs.{serves_alone}
use Rattle.mega_coordinator.proofs.laws.one_epoch_serves.Goals as goal

pub returns : goal.returns
returns c = serves_alone
