use Rattle.std.proofs.Common.{inl, inr, refl}
use Rattle.mega_tape_laws.proofs.Polling.{asked, polls, writes}
use Rattle.mega_tape_laws.proofs.examples.a_poll_after_a_decision.Goals as goal

pub returns-clause-written : goal.returns-clause-written
returns-clause-written c = writes

pub returns-clause-polls : goal.returns-clause-polls
returns-clause-polls c = polls

pub returns-clause-heard : goal.returns-clause-heard
returns-clause-heard c = asked

pub returns-clause-after : goal.returns-clause-after
returns-clause-after c = inr (inr (inr (inr (inr (inr (inr (inr (inl (refl, inl refl)))))))))
