use Rattle.mega_tape_laws.proofs.Agreement.{carried_entry, chosen_entry, decided_chosen, settled_chosen}
use Rattle.mega_tape_laws.proofs.laws.a_chosen_entry_stays.Goals as goal

pub returns-clause-once : goal.returns-clause-once
returns-clause-once c = chosen_entry

pub returns-clause-carried : goal.returns-clause-carried
returns-clause-carried c = carried_entry

pub returns-clause-decided : goal.returns-clause-decided
returns-clause-decided c = λ c tape l p node e s. decided_chosen c p tape l node e s

pub returns-clause-settled : goal.returns-clause-settled
returns-clause-settled c = settled_chosen
