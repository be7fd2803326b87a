use Rattle.mega_record_laws.proofs.Reading.{line_again, line_found}
use Rattle.mega_record_laws.proofs.laws.lines_are_read_back.Goals as goal

pub returns-clause-read : goal.returns-clause-read
returns-clause-read c = line_again

pub returns-clause-found : goal.returns-clause-found
returns-clause-found c = line_found
