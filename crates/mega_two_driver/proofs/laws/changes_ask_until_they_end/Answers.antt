use Rattle.mega_two_driver.proofs.Asked.{until_ended}
use Rattle.mega_two_driver.proofs.laws.changes_ask_until_they_end.Goals as goal

pub returns : goal.returns
returns c = until_ended
