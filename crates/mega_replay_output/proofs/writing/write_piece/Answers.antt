use Rattle.mega_replay_output.proofs.Progress.{some_put}
use Rattle.mega_replay_output.proofs.writing.write_piece.Goals as goal

pub returns-in-Err-clause-err : goal.returns-in-Err-clause-err
returns-in-Err-clause-err g c = some_put _ _ _ _ c.write_on.ensures.empty c.in-Err.ensures.err
