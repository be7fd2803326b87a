use Rattle.std.proofs.Common.{◌∷◌, List, subst, sym}
use Rattle.mega_wal.specs.declared.item.JournalItem.{JournalItem}
use Rattle.mega_rules.specs.Met.{Sends}
use Rattle.mega_step_choices.specs.Staging.{Stages}
use Rattle.mega_step_choices.proofs.Staged.{sending_staged}
use Rattle.mega_step_parts.proofs.keeping.tell_sent.Goals as goal

pub returns-in-Ok-clause-staged : goal.returns-in-Ok-clause-staged
returns-in-Ok-clause-staged g c = λ before met may tells stages.
    subst (λ (items : List JournalItem). Stages items before (Sends c.args.message.now ∷ met)) (sym (c.in-Ok.ensures.staged met may tells))
    (sending_staged c.args.voter.now.logs.staged.items before met c.args.message.now stages)
