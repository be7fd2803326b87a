use Rattle.mega_calm_laws.proofs.Proposed.{proposal_committed, proposal_decided}
use Rattle.mega_calm_laws.proofs.laws.a_proposal_made_alone_is_committed.Goals as goal

pub returns-clause-decided : goal.returns-clause-decided
returns-clause-decided f = proposal_decided

pub returns-clause-answered : goal.returns-clause-answered
returns-clause-answered f = proposal_committed
