use Rattle.mega_durable.proofs.up.Up.clock.Goals as goal

pub returns : goal.returns
returns g c h node up = c.now.ensures c.args.self.now.node.replica.members c.args.self.now.node.replica.me node.met up.stands.within.leased
