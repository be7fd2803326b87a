use Rattle.mega_tape_laws.proofs.FittingLogs.{log_fits}
use Rattle.mega_tape_laws.proofs.growing.rows_of_logs_fit.Goals as goal

pub returns : goal.returns
returns c = log_fits
