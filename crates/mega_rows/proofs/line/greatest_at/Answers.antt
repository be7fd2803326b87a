use Rattle.mega_rows.proofs.VersionAt.{range_last}
use Rattle.mega_rows.proofs.line.greatest_at.Goals as goal

pub returns-in-Some : goal.returns-in-Some
returns-in-Some c = range_last c.args.line.now c.args.at c.range.result _ _ _ (c.range.ensures.in_range tt) c.in-Some.ensures.steps
