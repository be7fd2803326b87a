-- An operation whose current read is complete, as the rules see it.
use Rattle.mega_operations.specs.Whole.{whole}
use Rattle.mega_rules.specs.Operations.{Operation, Reads}
use Rattle.mega_step_work.specs.declared.complete_read.CompleteRead.{CompleteRead}

abbrev pub operation_of : CompleteRead → Operation
operation_of reached = whole reached.kept (Reads reached.group reached.reading)
