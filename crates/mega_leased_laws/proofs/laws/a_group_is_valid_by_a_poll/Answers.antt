use Rattle.mega_leased_laws.proofs.Leased.{run_by_poll}
use Rattle.mega_leased_laws.proofs.laws.a_group_is_valid_by_a_poll.Goals as goal

pub returns : goal.returns
returns c = run_by_poll
