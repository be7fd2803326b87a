use Rattle.mega_wal.proofs.Formatted.{history_fits}
use Rattle.mega_wal.proofs.laws.history_fits.Goals as goal

pub returns : goal.returns
returns c = λ records good. history_fits records 1 good
