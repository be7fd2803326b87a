use Rattle.mega_syntax.proofs.Refusals.{refused}
use Rattle.mega_syntax.proofs.laws.refusals_are_at_the_first_bad_token.Goals as goal

pub returns : goal.returns
returns c = refused
