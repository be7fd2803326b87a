use Rattle.mega_reply_laws.proofs.Serving.{are_replied}
use Rattle.mega_reply_laws.proofs.laws.each_request_gets_one_reply.Goals as goal

pub returns : goal.returns
returns c = are_replied
