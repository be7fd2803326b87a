use Rattle.mega_entry.specs.Same.{same_row}
use Rattle.mega_entry.proofs.Sames.{rows, test_is}
use Rattle.mega_entry.proofs.equal.is_same_row.Goals as goal

pub returns : goal.returns
returns c = test_is same_row rows c.same_as.result c.args.one.now c.args.two.now c.same_as.ensures
