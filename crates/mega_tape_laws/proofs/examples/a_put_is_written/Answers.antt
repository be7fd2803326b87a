use Rattle.std.proofs.Common.{inl, refl}
use Rattle.mega_tape_laws.proofs.Writing.{writes}
use Rattle.mega_tape_laws.proofs.examples.a_put_is_written.Goals as goal

pub returns-clause-written : goal.returns-clause-written
returns-clause-written c = writes

pub returns-clause-decided : goal.returns-clause-decided
returns-clause-decided c = inl refl
