use Rattle.mega_plain_laws.proofs.Ticking.{asked, formed, held, named}
use Rattle.mega_plain_laws.proofs.examples.a_tick_meets_the_premises.Goals as goal

pub returns-clause-formed : goal.returns-clause-formed
returns-clause-formed c = formed

pub returns-clause-named : goal.returns-clause-named
returns-clause-named c = named

pub returns-clause-asked : goal.returns-clause-asked
returns-clause-asked c = asked

pub returns-clause-held : goal.returns-clause-held
returns-clause-held c = held
