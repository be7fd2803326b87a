use Rattle.std.proofs.Common.{ap, ◌∙◌}
use Rattle.mega_verdicts.specs.Refusals.{delivery_refusal}
use Rattle.mega_places.proofs.mail.Mail.delivery_refusal.Goals as goal

pub returns : goal.returns
returns c cluster now r ups =
    c.delivery_refusal.ensures
    ∙ (λ i. delivery_refusal (c.is_sent-is_sent.ensures now.tape r i) (c.is_dropped-is_dropped.ensures now.tape r i) (c.is_receiver_down-is_down.ensures now r ups i))
