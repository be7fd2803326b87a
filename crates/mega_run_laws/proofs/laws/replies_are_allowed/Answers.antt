use Rattle.mega_run_laws.proofs.Replied.{answer_fair}
use Rattle.mega_run_laws.proofs.laws.replies_are_allowed.Goals as goal

pub returns : goal.returns
returns c = λ cluster tape me from met s asked took answer h. (answer_fair cluster tape me from met s asked took answer h).0
