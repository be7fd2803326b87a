use Rattle.mega_served_laws.proofs.Serving.{calls_journal, calls_record, sends_go}
use Rattle.mega_served_laws.proofs.laws.calls_are_one_run.Goals as goal

pub returns-clause-record_is : goal.returns-clause-record_is
returns-clause-record_is c = calls_record

pub returns-clause-sends_are : goal.returns-clause-sends_are
returns-clause-sends_are c = sends_go

pub returns-clause-journal_says : goal.returns-clause-journal_says
returns-clause-journal_says c = calls_journal
