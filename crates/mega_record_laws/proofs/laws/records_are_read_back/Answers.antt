use Rattle.mega_record_laws.proofs.Records.{front_again, record_again, record_found}
use Rattle.mega_record_laws.proofs.laws.records_are_read_back.Goals as goal

pub returns-clause-read : goal.returns-clause-read
returns-clause-read c = record_again

pub returns-clause-fronts : goal.returns-clause-fronts
returns-clause-fronts c = front_again

pub returns-clause-found : goal.returns-clause-found
returns-clause-found c = record_found
