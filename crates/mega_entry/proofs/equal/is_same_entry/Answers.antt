use Rattle.mega_entry.specs.Same.{same_entry}
use Rattle.mega_entry.proofs.Sames.{entries, test_is}
use Rattle.mega_entry.proofs.equal.is_same_entry.Goals as goal

pub returns : goal.returns
returns c = test_is same_entry entries c.same_as.result c.args.one.now c.args.two.now c.same_as.ensures
