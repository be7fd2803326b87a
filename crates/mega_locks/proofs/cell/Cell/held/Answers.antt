use Rattle.std.proofs.Common.{◌∙◌, ap}
use Rattle.mega_locks.specs.Rule.{held_epoch}
use Rattle.mega_locks.specs.History.{lock_of}
use Rattle.mega_locks.proofs.Places.{place_in}
use Rattle.mega_locks.proofs.cell.Cell.held.Goals as goal

pub returns : goal.returns
returns c = λ calls kept. c.held_epoch.ensures ∙ ap held_epoch (place_in _ (lock_of calls) _ _ _ kept.locks c.from.ensures c.requires.least c.requires.most)
