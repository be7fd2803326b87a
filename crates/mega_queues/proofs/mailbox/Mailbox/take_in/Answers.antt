use Rattle.mega_queues.proofs.Mailing.{taken_in}
use Rattle.mega_queues.proofs.mailbox.Mailbox.take_in.Goals as goal

pub returns : goal.returns
returns c =
    taken_in c.args.self.now (record { entered = c.add_names_of.new.names; handled = c.add_all.new.names; waiting = c.await_all.new.waiting }) c.forget_some.new.waiting.items c.args.enters.now c.args.handles.now
    c.in_ok-add_names_of.ensures c.in_ok-add_all.ensures c.forget_some.ensures c.in_ok-await_all.ensures
