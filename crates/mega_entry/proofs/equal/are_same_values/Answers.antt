use Rattle.mega_entry.specs.Same.{same_values}
use Rattle.mega_entry.proofs.Sames.{lists, test_is, values}
use Rattle.mega_entry.proofs.equal.are_same_values.Goals as goal

pub returns : goal.returns
returns c = test_is same_values (lists values) c.same_as.result c.args.one.now c.args.two.now c.same_as.ensures
