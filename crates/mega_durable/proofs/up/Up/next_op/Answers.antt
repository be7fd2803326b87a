use Rattle.mega_durable.proofs.up.Up.next_op.Goals as goal

pub returns : goal.returns
returns g c h node up = c.next_op.ensures c.args.self.now.node.replica.members h node.met up.stands.within.tells up.stands.within.begun_is
