use Rattle.std.proofs.Common.{◌∙◌, ap}
use Rattle.mega_locks.specs.Rule.{answer}
use Rattle.mega_locks.specs.History.{lock_of}
use Rattle.mega_locks.proofs.Places.{place_in}
use Rattle.mega_locks.proofs.cell.Cell.ask.Goals as goal

pub returns-clause-exact : goal.returns-clause-exact
returns-clause-exact c = λ calls kept. c.answer-answer.ensures ∙ ap (λ lock. answer lock c.args.epoch) (place_in _ (lock_of calls) _ _ _ kept.locks c.from-index.ensures c.requires.least c.requires.most)
