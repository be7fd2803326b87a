use Rattle.std.proofs.Common.{inl, refl}
use Rattle.mega_tape_laws.proofs.Witnesses.{completed_lawful}
use Rattle.mega_tape_laws.proofs.examples.a_position_completed_by_another.Goals as goal

pub returns-clause-lawful : goal.returns-clause-lawful
returns-clause-lawful c = completed_lawful

pub returns-clause-decided : goal.returns-clause-decided
returns-clause-decided c = inl refl
