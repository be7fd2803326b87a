use Rattle.mega_coordinator.proofs.Epochs.{epoch_counts}
use Rattle.mega_coordinator.proofs.laws.epoch_counts_endings.Goals as goal

pub returns : goal.returns
returns c = epoch_counts
