use Rattle.std.proofs.Common.{◌≡◌, take}
use Rattle.mega_disk.proofs.mem_records.copies.Given as goal

abbrev pub invariant-loop-record : goal.invariant-loop-record
invariant-loop-record l = l.made.items ≡ take l.record-index l.records
