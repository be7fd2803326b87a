use Rattle.mega_clean_laws.proofs.Topmost.{applied_top}
use Rattle.mega_clean_laws.proofs.laws.local_reads_reach_what_is_applied.Goals as goal

pub returns : goal.returns
returns c = applied_top
