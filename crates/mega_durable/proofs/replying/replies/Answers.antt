use Rattle.std.proofs.Common.{◌∙◌}
use Rattle.mega_durable.proofs.Stepping.{replies_once}
use Rattle.mega_durable.proofs.replying.replies.Goals as goal

pub returns-in-Take : goal.returns-in-Take
returns-in-Take c = λ met. rw c.in-Take.is (c.replies_to.ensures ∙ replies_once c.args.cluster.now c.args.me met _ _)
