use Rattle.mega_two_driver.proofs.Sound.{loses, takes}
use Rattle.mega_two_driver.proofs.laws.changes_stay_at_their_parts.Goals as goal

pub returns-clause-taken : goal.returns-clause-taken
returns-clause-taken c = takes

pub returns-clause-lost : goal.returns-clause-lost
returns-clause-lost c = loses
