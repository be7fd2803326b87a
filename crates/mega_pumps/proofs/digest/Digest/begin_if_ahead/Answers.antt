use Rattle.mega_rules.specs.Logs.{log_of}
use Rattle.mega_pumps.proofs.digest.Digest.begin_if_ahead.Goals as goal

pub returns-then-is_ahead : goal.returns-then-is_ahead
returns-then-is_ahead g c = λ met stored tells follows kept is. c.new.ensures (log_of met) stored
