use Rattle.mega_queues.proofs.Noting.{noted_follows}
use Rattle.mega_queues.proofs.queues.Queues.note.Goals as goal

pub returns : goal.returns
returns c = λ logs kept next.
    noted_follows logs c.args.self.now (record { alloc = c.args.self.now.alloc; mailboxes = c.note_mail.new.boxes; outboxes = c.forget_senders.new.outboxes }) c.note_sends.new.outboxes c.args.group.now c.args.position.0 c.args.entry.now kept next
    c.in_ok-note_sends.ensures c.in_ok-note_mail.ensures c.forget_senders.ensures
