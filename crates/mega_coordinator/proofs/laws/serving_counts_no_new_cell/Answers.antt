use Rattle.mega_coordinator.proofs.Epochs.{frozen}
use Rattle.mega_coordinator.proofs.laws.serving_counts_no_new_cell.Goals as goal

pub returns : goal.returns
returns c = frozen
