use Rattle.std.proofs.Common.{sym}
use Rattle.std.specs.Ordering.{nat_cmp}
use Rattle.std.specs.BTreeMap.{get}
use Rattle.mega_rows.proofs.Trims.{cut_is, trimmed_none}
use Rattle.mega_rows.proofs.line.trim.Goals as goal

pub returns-in_ok-kept-in-Some-clause-ok : goal.returns-in_ok-kept-in-Some-clause-ok
returns-in_ok-kept-in-Some-clause-ok c = cut_is c.args.line.now c.in_ok-kept-in-Some.kept c.in-Some.least c.args.below c.in-Some.ensures c.in_ok-kept-in-Some.ensures.from

pub returns-in-None-clause-ok : goal.returns-in-None-clause-ok
returns-in-None-clause-ok c = λ p. sym (trimmed_none c.args.below (get nat_cmp c.args.line.now) c.in-None.ensures p)
