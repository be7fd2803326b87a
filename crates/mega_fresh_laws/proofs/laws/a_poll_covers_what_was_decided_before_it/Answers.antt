use Rattle.mega_fresh_laws.proofs.Asked.{run_poll_covers}
use Rattle.mega_fresh_laws.proofs.laws.a_poll_covers_what_was_decided_before_it.Goals as goal

pub returns : goal.returns
returns c = run_poll_covers
