use Rattle.mega_shown_laws.proofs.Users.{shown_formed, shown_there}
use Rattle.mega_shown_laws.proofs.examples.a_shown_user_is_of_the_format.Goals as goal

pub returns-clause-formed : goal.returns-clause-formed
returns-clause-formed c = shown_formed

pub returns-clause-shows : goal.returns-clause-shows
returns-clause-shows c = shown_there
