use Rattle.std.proofs.Common.{false, refl, subst, sym}
use Rattle.mega_tally.specs.Reaching.{ReachesOrNone}
use Rattle.mega_tally.proofs.decided.Decided.new.Goals as goal

pub returns : goal.returns
returns c = record { follows = λ log. subst (λ kept. ReachesOrNone kept (λ n. false) 0) (sym (c.no_logs.ensures log)) ((λ n. refl), refl); groups = c.none_longest.ensures }
