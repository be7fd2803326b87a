use Rattle.std.proofs.Common.{◌∙◌}
use Rattle.mega_queues.specs.Mail.{seen, with_marks}
use Rattle.mega_queues.proofs.mailbox.Mailbox.note.Goals as goal

pub returns : goal.returns
returns c = c.in_ok-take_in.ensures ∙ (λ i. with_marks (c.as_slice.ensures i) (c.as_slice-2.ensures i) (seen c.args.self.now))
