use Rattle.std.proofs.Common.{sym}
use Rattle.mega_outcome.specs.declared.answer.Answer.TheVariants.{NothingToDo}
use Rattle.mega_rules.specs.Acting.{Rests, ends}
use Rattle.mega_answers.proofs.pumping.has_nothing.Goals as goal

pub returns-clause-pumped : goal.returns-clause-pumped
returns-clause-pumped g c members me h leases now o asked stands groups is = λ i. Rests (ends now (sym is i) (NothingToDo (c.in_ok-marks.ensures now stands.tells stands.follows groups i)))
