use Rattle.mega_leased_laws.proofs.Leased.{run_leased}
use Rattle.mega_leased_laws.proofs.laws.leases_are_as_the_rules_have_them.Goals as goal

pub returns : goal.returns
returns c = run_leased
