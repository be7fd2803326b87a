use Rattle.mega_leases.proofs.Opened.{started}
use Rattle.mega_leases.proofs.leases.Leases.start.Goals as goal

pub returns : goal.returns
returns c met owed are grants_are =
    started c.args.cluster.now c.args.me.0 c.args.start _ _ _ c.args.grants.now met owed c.requires.least c.of.ensures c.reopened.ensures c.new.ensures are grants_are
