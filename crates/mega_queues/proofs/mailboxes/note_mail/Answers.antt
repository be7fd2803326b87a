use Rattle.mega_queues.proofs.Placing.{mail_after}
use Rattle.mega_queues.proofs.mailboxes.note_mail.Goals as goal

pub returns : goal.returns
returns c = mail_after c.args.boxes.now c.open.new.boxes c.note_there.new.boxes c.args.group.now c.args.entry.now c.in_ok-open.ensures.same c.in_ok-note_there.ensures
