use Rattle.mega_calm_laws.proofs.Opening.{opened_calm_at, put_ends, put_taken}
use Rattle.mega_calm_laws.proofs.examples.a_transaction_may_begin_in_a_calm_cluster.Goals as goal

pub returns-clause-calm : goal.returns-clause-calm
returns-clause-calm f = opened_calm_at

pub returns-clause-ends : goal.returns-clause-ends
returns-clause-ends f = put_ends

pub returns-clause-taken : goal.returns-clause-taken
returns-clause-taken f = put_taken
