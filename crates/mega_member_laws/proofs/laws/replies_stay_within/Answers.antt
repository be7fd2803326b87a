use Rattle.mega_member_laws.proofs.Replies.{reply_within}
use Rattle.mega_member_laws.proofs.laws.replies_stay_within.Goals as goal

pub returns : goal.returns
returns c = reply_within
