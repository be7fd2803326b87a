use Rattle.mega_rows.proofs.VersionAt.{seen_last, seen_none}
use Rattle.mega_rows.proofs.line.version.Goals as goal

pub returns-in-Some : goal.returns-in-Some
returns-in-Some c = seen_last c.args.line.now c.args.at c.range.result _ _ _ (c.range.ensures.in_range tt) c.in-Some.ensures.steps

pub returns-in-None : goal.returns-in-None
returns-in-None c = seen_none c.args.line.now c.args.at c.range.result (c.range.ensures.in_range tt) c.in-None.ensures.steps.0
