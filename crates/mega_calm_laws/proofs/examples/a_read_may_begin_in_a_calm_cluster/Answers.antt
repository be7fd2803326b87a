use Rattle.std.proofs.Common.{refl}
use Rattle.mega_calm_laws.proofs.Opening.{opened_calm}
use Rattle.mega_calm_laws.proofs.examples.a_read_may_begin_in_a_calm_cluster.Goals as goal

pub returns-clause-calm : goal.returns-clause-calm
returns-clause-calm f = opened_calm

pub returns-clause-ends : goal.returns-clause-ends
returns-clause-ends f = (refl, refl)

pub returns-clause-fits : goal.returns-clause-fits
returns-clause-fits f = refl
