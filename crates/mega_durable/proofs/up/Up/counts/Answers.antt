use Rattle.mega_durable.proofs.up.Up.counts.Goals as goal

pub returns : goal.returns
returns g c h node up = c.counts.ensures c.args.self.now.node.replica.members c.args.self.now.node.replica.me node.met up.stands.within.leased
