use Rattle.std.proofs.Common.{◌≡◌, ◌∙◌, ◌+◌, ◌∷◌, List, ap, drop, map, refl, subst, sym}
use Rattle.std.proofs.lemmas.List.{drop_all, drop_more}
use Rattle.mega_wire.specs.declared.message.Message.{Message}
use Rattle.mega_rules.specs.Met.{Sends}
use Rattle.mega_rules.specs.Steps.{onto}
use Rattle.mega_step_work.specs.of_voter.Telling.{Tells}
use Rattle.mega_step_choices.specs.Staging.{Stages}
use Rattle.mega_step_parts.proofs.Sent.{SentSo, sent_first, sent_next, StagedSent, sent_staged_first, sent_staged_next}
use Rattle.mega_step_parts.proofs.keeping.tell_all_sent.Goals as goal

pub loop-message-init : goal.loop-message-init
loop-message-init g c = (sent_first c.args.voter.now.logs.kept c.args.sends.now, λ before met may tells stages. sent_staged_first c.args.voter.now.logs.kept c.args.voter.now.logs.staged.items before c.args.sends.now met may tells stages, refl)

pub loop-message-preserved : goal.loop-message-preserved
loop-message-preserved g c =
    let at = c.loop-message.message-index in
    let sends = c.args.sends.now in
    let first : drop at sends ≡ c.message-item.result ∷ drop (at + 1) sends = drop_more sends at c.message-item.result c.loop-message-test.true ∙ ap (λ (m : Message). m ∷ drop (at + 1) sends) (sym c.message-item.is) in
    let old = c.loop-message.voter.logs in
    let new = c.tell_sent.new.voter.logs in
    let told = c.in_ok-tell_sent.ensures in (
      λ met may tells.
          sent_next old.kept new.kept c.message-item.result (drop (at + 1) sends) (onto (map Sends sends) met) told.kept
          (subst (λ (left : List Message). SentSo old.kept left (onto (map Sends sends) met)) first (c.loop-message.invariant.0 met may tells)),
      λ before met may tells stages.
          sent_staged_next old.kept new.kept old.staged.items new.staged.items before c.message-item.result (drop (at + 1) sends) (onto (map Sends sends) met) told.kept told.staged
          (subst (λ (left : List Message). StagedSent old.kept old.staged.items before left (onto (map Sends sends) met)) first (c.loop-message.invariant.1 before met may tells stages)),
      told.records ∙ c.loop-message.invariant.2,
    )

pub returns-clause-kept : goal.returns-clause-kept
returns-clause-kept g c = λ met may tells.
    let sends = c.args.sends.now in
    let all = onto (map Sends sends) met in
    let so = subst (λ (left : List Message). SentSo c.loop-message.voter.logs.kept left all) (drop_all c.loop-message.message-index sends c.loop-message-test.false) (c.loop-message.invariant.0 met may tells) in
    subst (Tells c.loop-message.voter.logs.kept) so.leads so.tells

pub returns-clause-staged : goal.returns-clause-staged
returns-clause-staged g c = λ before met may tells stages.
    let sends = c.args.sends.now in
    let all = onto (map Sends sends) met in
    let log = c.loop-message.voter.logs in
    let so = subst (λ (left : List Message). StagedSent log.kept log.staged.items before left all) (drop_all c.loop-message.message-index sends c.loop-message-test.false) (c.loop-message.invariant.1 before met may tells stages) in
    subst (Stages log.staged.items before) so.leads so.stages

pub returns-clause-records : goal.returns-clause-records
returns-clause-records g c = c.loop-message.invariant.2
