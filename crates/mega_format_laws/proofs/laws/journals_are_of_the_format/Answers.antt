use Rattle.mega_format_laws.proofs.Journals.{journal_formed, votes_formed}
use Rattle.mega_format_laws.proofs.laws.journals_are_of_the_format.Goals as goal

pub returns-clause-whole : goal.returns-clause-whole
returns-clause-whole c = journal_formed

pub returns-clause-votes : goal.returns-clause-votes
returns-clause-votes c = votes_formed
