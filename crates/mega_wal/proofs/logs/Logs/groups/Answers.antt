use Rattle.mega_wal.proofs.Decided.{are_decided}
use Rattle.mega_wal.proofs.logs.Logs.groups.Goals as goal

pub returns : goal.returns
returns g c = λ items rep. are_decided c.args.self.now.kept items c.in_ok-found.found.items c.in_ok-found.ensures.found c.in_ok-found.ensures.ordered rep
