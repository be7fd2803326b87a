use Rattle.mega_pumps.proofs.Onward.{notes_on}
use Rattle.mega_pumps.proofs.laws.what_is_noted_stays.Goals as goal

pub returns : goal.returns
returns c = notes_on
