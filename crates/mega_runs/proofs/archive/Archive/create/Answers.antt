use Rattle.mega_runs.proofs.Emptied.{emptied, emptied_good}
use Rattle.mega_runs.proofs.archive.Archive.create.Goals as goal

pub returns-in-Ok-open-clause-empty : goal.returns-in-Ok-open-clause-empty
returns-in-Ok-open-clause-empty g c told = emptied (g.D.Disk.seen c.empty.new.disk) _ (c.in-Ok.ensures.empty told) (c.in-Ok-open.ensures.versions told)

pub returns-in-Err-open-clause-good : goal.returns-in-Err-open-clause-good
returns-in-Err-open-clause-good g c told n is = emptied_good (g.D.Disk.seen c.empty.new.disk) n (c.in-Ok.ensures.empty told) (c.in-Err-open.ensures.bad told n is)
