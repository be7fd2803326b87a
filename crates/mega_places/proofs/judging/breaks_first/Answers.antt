use Rattle.std.proofs.Common.{◌&&◌, ◌∙◌, ap, not}
use Rattle.mega_places.proofs.judging.breaks_first.Goals as goal

pub returns : goal.returns
returns c cluster ruled members lapses = c.is_first.ensures ∙ ap (λ t. not c.args.safety.now.is_told && t) (c.breaks.ensures cluster ruled members lapses)
