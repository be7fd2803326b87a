use Rattle.mega_keys.proofs.Refusals.{refused}
use Rattle.mega_keys.proofs.laws.refusals_are_told_where_they_are.Goals as goal

pub returns : goal.returns
returns c = refused
