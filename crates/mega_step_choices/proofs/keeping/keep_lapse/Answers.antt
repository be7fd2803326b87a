use Rattle.std.proofs.Common.{◌∷◌, List, subst, sym}
use Rattle.mega_propose.specs.of_wal.declared.item.JournalItem.{JournalItem}
use Rattle.mega_voter.specs.of_rules.Met.{Lapses}
use Rattle.mega_step_choices.specs.Staging.{Stages}
use Rattle.mega_step_choices.proofs.Staged.{lapsing_staged}
use Rattle.mega_step_choices.proofs.keeping.keep_lapse.Goals as goal

pub returns-in-Ok-clause-staged : goal.returns-in-Ok-clause-staged
returns-in-Ok-clause-staged g c = λ before met stages.
    subst (λ (items : List JournalItem). Stages items before (Lapses c.args.node.0 c.args.epoch ∷ met)) (sym c.in-Ok.ensures.staged)
    (lapsing_staged c.args.voter.now.logs.staged.items before met c.args.node.0 c.args.epoch stages)
