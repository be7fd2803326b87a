use Rattle.std.proofs.Common.{refl, rules}
use Rattle.mega_disk.specs.declared.changes.Change.TheVariants.{Shortened}
use Rattle.mega_disk.proofs.changes.cut_to.Goals as goal

pub returns-clause-changed : goal.returns-clause-changed
returns-clause-changed c = (Shortened c.args.size c.in_ok-whole.whole, (refl, search rules), search rules)
