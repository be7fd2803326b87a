use Rattle.std.proofs.Common.{ℕ, subst, sym}
use Rattle.mega_tally.specs.Reaching.{Reaches, ReachesOrNone}
use Rattle.mega_tally.proofs.logs.reach_of.Goals as goal

pub returns-in-Some : goal.returns-in-Some
returns-in-Some c test most stands = subst (λ kept. ReachesOrNone kept test most) c.in-Some.is stands

pub returns-in-None : goal.returns-in-None
returns-in-None c test most stands = let nothing = subst (λ kept. ReachesOrNone kept test most) c.in-None.is stands in subst (λ (n : ℕ). Reaches c.new.result test n) (sym nothing.1) (c.new.ensures test nothing.0)
