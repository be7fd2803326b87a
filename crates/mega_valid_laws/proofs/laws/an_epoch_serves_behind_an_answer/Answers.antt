use Rattle.mega_valid_laws.proofs.Epochs.{served_behind}
use Rattle.mega_valid_laws.proofs.laws.an_epoch_serves_behind_an_answer.Goals as goal

pub returns : goal.returns
returns c = served_behind
