use Rattle.std.proofs.Common.{inl, refl}
use Rattle.mega_tape_laws.proofs.Rivals.{answers}
use Rattle.mega_tape_laws.proofs.examples.a_rival_is_told.Goals as goal

pub returns-clause-answered : goal.returns-clause-answered
returns-clause-answered c = answers

pub returns-clause-told : goal.returns-clause-told
returns-clause-told c = inl refl
