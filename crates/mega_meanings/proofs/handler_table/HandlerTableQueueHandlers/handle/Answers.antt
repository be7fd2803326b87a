use Rattle.mega_meanings.proofs.Tabled.{made_same}
use Rattle.mega_meanings.proofs.handler_table.HandlerTableQueueHandlers.handle.Goals as goal

pub returns-clause-same : goal.returns-clause-same
returns-clause-same g c = made_same g.B.Handler.effect c.args.self.now.named c.handle_in.new.self.named c.args.message.now.queue c.handle_in.ensures.same c.handle_in.ensures.others
