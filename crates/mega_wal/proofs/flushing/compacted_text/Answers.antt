use Rattle.mega_wal.proofs.Compacted.{compacted_same}
use Rattle.mega_wal.proofs.flushing.compacted_text.Goals as goal

pub returns-clause-same : goal.returns-clause-same
returns-clause-same c = λ short. compacted_same c.args.kept.now c.requires c.in_ok-compacted.ensures.ordered short
