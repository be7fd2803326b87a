use Rattle.std.proofs.Common.{inr}
use Rattle.mega_node.proofs.Texts.{all_front}
use Rattle.mega_node.proofs.program.tell.Goals as goal

pub returns-in-Ok-clause-front : goal.returns-in-Ok-clause-front
returns-in-Ok-clause-front g c = inr (c.in-Header.rule, c.in-Header.is, all_front _ _ _ c.in-Ok.ensures.ok)
