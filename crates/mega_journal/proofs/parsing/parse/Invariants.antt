use Rattle.std.proofs.Common.{length}
use Rattle.mega_journal.proofs.Reading.{Reading}
use Rattle.mega_journal.proofs.parsing.parse.Given as goal

abbrev pub invariant-loop-body : goal.invariant-loop-body
invariant-loop-body l = Reading l.bytes l.records.items l.rest

abbrev pub decreases-loop-body : goal.decreases-loop-body
decreases-loop-body l = length l.rest
