use Rattle.std.proofs.Common.{inl, refl}
use Rattle.mega_tape_laws.proofs.Witnesses.{decided_at_zero_lawful}
use Rattle.mega_tape_laws.proofs.examples.a_decision_at_zero.Goals as goal

pub returns-clause-lawful : goal.returns-clause-lawful
returns-clause-lawful c = decided_at_zero_lawful

pub returns-clause-decided : goal.returns-clause-decided
returns-clause-decided c = inl refl
