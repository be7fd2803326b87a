use Rattle.mega_voter.proofs.Opened.{opened_told}
use Rattle.mega_voter.proofs.laws.opened_logs_tell_their_journal.Goals as goal

pub returns : goal.returns
returns c = opened_told
