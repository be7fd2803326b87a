use Rattle.std.proofs.Common.{◌≡◌, take, length}
use Rattle.std.specs.List.{sum_by}
use Rattle.mega_entry.specs.declared.content.Content.{Content}
use Rattle.mega_replica.proofs.applying.count_writes.Given as goal

abbrev pub invariant-loop-entry : goal.invariant-loop-entry
invariant-loop-entry l = l.total ≡ sum_by (λ (entry : Content). length entry.writes) (take l.entry-index l.log)
