use Rattle.mega_tape_laws.specs.IndexExamples.{named_put}
use Rattle.mega_promises.specs.of_transcript.Tape.{newest}
use Rattle.mega_tape_laws.proofs.IndexWitnesses.{declared, entries_are, named_log, named_writes, put_comes, put_values, whole_indexed}
use Rattle.mega_tape_laws.proofs.indexes.a_put_has_its_entry.Goals as goal

pub returns-clause-writes : goal.returns-clause-writes
returns-clause-writes c = put_comes

pub returns-clause-entries : goal.returns-clause-entries
returns-clause-entries c = entries_are

pub returns-clause-indexed : goal.returns-clause-indexed
returns-clause-indexed c = whole_indexed

pub returns-clause-declared : goal.returns-clause-declared
returns-clause-declared c = declared

pub returns-clause-values : goal.returns-clause-values
returns-clause-values c = put_values (newest named_put)

pub returns-clause-written : goal.returns-clause-written
returns-clause-written c = named_writes

pub returns-clause-log : goal.returns-clause-log
returns-clause-log c = named_log
