use Rattle.mega_record_laws.proofs.Served.{served_is}
use Rattle.mega_record_laws.proofs.laws.what_is_served_is_this_text.Goals as goal

pub returns : goal.returns
returns c = served_is
