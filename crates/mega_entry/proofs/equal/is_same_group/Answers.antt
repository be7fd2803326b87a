use Rattle.mega_entry.specs.Same.{same_group}
use Rattle.mega_entry.proofs.Sames.{groups, test_is}
use Rattle.mega_entry.proofs.equal.is_same_group.Goals as goal

pub returns : goal.returns
returns c = test_is same_group groups c.same_as.result c.args.one.now c.args.two.now c.same_as.ensures
