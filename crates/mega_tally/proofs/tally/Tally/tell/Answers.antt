use Rattle.std.proofs.Common.{◌∙◌, ◌++◌, ℕ, List, ap}
use Rattle.mega_tally.proofs.Adding.{text_is}
use Rattle.mega_tally.proofs.tally.Tally.tell.Goals as goal

pub returns-in-Ok-clause-ok : goal.returns-in-Ok-clause-ok
returns-in-Ok-clause-ok c items counts = c.in-Ok.ensures.ok ∙ ap (λ (text : List ℕ). c.args.out.now ++ text) (text_is c.args.self.now items c.args.events counts)
