use Rattle.mega_tally.specs.declared.reach.Reach.{Reach}
use Rattle.mega_tally.proofs.Deciding.{reaches_on}
use Rattle.mega_tally.proofs.reach.Reach.decide.Goals as goal

pub returns-clause-reaches : goal.returns-clause-reaches
returns-clause-reaches c test most r =
    reaches_on c.args.self.now (record { positions = c.put.new.positions; bounds = c.bounds_with-self.result }) c.args.position c.in_ok-put.ensures c.bounds_with-self.ensures test most r
