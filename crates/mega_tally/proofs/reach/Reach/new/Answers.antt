use Rattle.std.proofs.Common.{◌∙◌, refl, sym}
use Rattle.mega_tally.proofs.reach.Reach.new.Goals as goal

pub returns : goal.returns
returns c test none = record { positions = λ n. c.no_positions.ensures n ∙ sym (none n); greatest = refl; prefix = refl }
