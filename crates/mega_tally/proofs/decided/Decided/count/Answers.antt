use Rattle.std.proofs.Common.{◌∷◌, subst, sym}
use Rattle.std.proofs.lemmas.Result.{on_ok_weaker}
use Rattle.mega_transcript.specs.declared.item.Item.{Item}
use Rattle.mega_tally.specs.Deciding.{Keeps}
use Rattle.mega_tally.proofs.decided.Decided.count.Goals as goal

pub returns-in-Decide : goal.returns-in-Decide
returns-in-Decide c = on_ok_weaker c.decide.result (λ on tape keeps. subst (λ (one : Item). Keeps c.decide.new.self (one ∷ tape)) (sym c.in-Decide.is) (on tape c.in-Decide.entry keeps)) c.decide.ensures
