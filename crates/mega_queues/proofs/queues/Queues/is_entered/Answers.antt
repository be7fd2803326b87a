use Rattle.std.proofs.Common.{◌∙◌, ap}
use Rattle.mega_queues.specs.Mail.{Mail}
use Rattle.mega_queues.proofs.queues.Queues.is_entered.Goals as goal

pub returns : goal.returns
returns c = λ logs kept. c.is_entered.ensures ∙ ap (λ (mail : Mail). mail.entered c.args.name.now) (kept.mail c.args.group.now)
