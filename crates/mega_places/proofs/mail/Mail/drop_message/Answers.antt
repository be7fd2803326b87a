use Rattle.std.proofs.Common.{refl, sym, ◌∙◌}
use Rattle.mega_places.specs.declared.mail.Mail.{Mail}
use Rattle.mega_places.proofs.Dropping.{drop_told, dropped_on}
use Rattle.mega_places.proofs.mail.Mail.drop_message.Goals as goal

pub returns-in-Ok-clause-value : goal.returns-in-Ok-clause-value
returns-in-Ok-clause-value c cluster now r =
    drop_told cluster c.args.self.now now c.args.number c.receiver-to.result c.in-Ok.why r (c.receiver-to.ensures now.tape r) c.in-Ok.ensures.refusal

pub returns-in-Ok-clause-same : goal.returns-in-Ok-clause-same
returns-in-Ok-clause-same c why is =
    λ i. record {
      messages = c.args.self.now.messages;
      waiting = c.in-Ok.ensures.still_waiting why is i;
      dropped = c.in-Ok.ensures.still_dropped why is i;
    }

pub returns-in-Ok-clause-dropped : goal.returns-in-Ok-clause-dropped
returns-in-Ok-clause-dropped c is tape r =
    dropped_on c.args.self.now (record { messages = c.args.self.now.messages; waiting = c.drop_message.new.waiting; dropped = c.drop_message.new.dropped }) tape c.args.number c.receiver-to.result r
    (c.receiver-to.ensures tape r) (sym c.in-Ok.ensures.refusal ∙ is) refl (c.in-Ok.ensures.waiting is) (c.in-Ok.ensures.dropped is)
