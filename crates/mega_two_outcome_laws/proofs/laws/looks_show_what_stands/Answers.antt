use Rattle.std.proofs.Common.{refl}
use Rattle.mega_two_outcome_laws.specs.Places.{plans, locks, plan_group, plan_place, lock_place}
use Rattle.mega_two_outcome_laws.proofs.Looking.{shows_row}
use Rattle.mega_two_outcome_laws.proofs.laws.looks_show_what_stands.Goals as goal

pub returns-clause-plan : goal.returns-clause-plan
returns-clause-plan c = λ s name values stores keyed. (shows_row s (plan_group s name) (plans s) values (plan_place s name) (stores (plan_group s name)) keyed, refl)

pub returns-clause-lock : goal.returns-clause-lock
returns-clause-lock c = λ s name group values stores keyed. (shows_row s group (locks s group) values (lock_place s group) (stores group) keyed, refl)
