use Rattle.std.proofs.Common.{◌≡◌, ◌∷◌, ◌++◌, ◌∙◌, true, List, subst, sym}
use Rattle.std.specs.Option.{is_none}
use Rattle.mega_wal.specs.declared.item.JournalItem.{JournalItem}
use Rattle.mega_wal.specs.declared.item.JournalItem.TheVariants.{Decide}
use Rattle.mega_wal.specs.History.{by_decide}
use Rattle.mega_rules.specs.Logs.{decided}
use Rattle.mega_rules.specs.Met.{Decides}
use Rattle.mega_rules.specs.Steps.{Decision}
use Rattle.mega_step_choices.specs.Staging.{Stages}
use Rattle.mega_step_choices.proofs.Staged.{deciding_staged}
use Rattle.mega_step_parts.proofs.deciding.keep_new.Goals as goal

pub returns-in-Ok-clause-staged : goal.returns-in-Ok-clause-staged
returns-in-Ok-clause-staged g c = λ before met new tells stages.
    let old = c.args.voter.now.logs.staged.items in
    let now = c.decides.new.self.logs.staged.items in
    let one = c.found.inside in
    let is : c.in-Ok.field-0 ≡ true = c.in-Ok.ensures.exact met tells ∙ subst (λ (d : Decision). is_none (decided met d.group d.position) ≡ true) (sym c.found.view_is) new in
    subst (λ (d : Decision). Stages now before (Decides d.group d.position d.entry ∷ met)) c.found.view_is
    (subst (λ (items : List JournalItem). Stages items before (Decides one.group one.position one.entry ∷ met))
    (sym (c.in-Ok.ensures.staged ∙ (λ i. old ++ by_decide (is i) (Decide one.group (record { 0 = one.position }) (c.in_ok-entry.ensures i)))))
    (deciding_staged old before met one.group one.position one.entry stages))
