use Rattle.std.proofs.Common.{arith}
use Rattle.mega_wal.proofs.Flushed.{flushed_history}
use Rattle.mega_wal.proofs.laws.history_grows.Goals as goal

pub returns : goal.returns
returns c = λ records items f. let most = f.most in flushed_history records items f.each (omega arith)
