use Rattle.mega_entry.specs.Same.{same_name}
use Rattle.mega_entry.proofs.Sames.{names, test_is}
use Rattle.mega_entry.proofs.equal.is_same_name.Goals as goal

pub returns : goal.returns
returns c = test_is same_name names c.same_as.result c.args.one.now c.args.two.now c.same_as.ensures
