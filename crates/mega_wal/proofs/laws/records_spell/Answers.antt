use Rattle.std.proofs.Common.{arith, ap}
use Rattle.std.specs.Prelude.{is_ok}
use Rattle.mega_wal.proofs.Flushed.{items_read, record_again}
use Rattle.mega_wal.proofs.Formatted.{record_found}
use Rattle.mega_wal.proofs.laws.records_spell.Goals as goal

pub returns-clause-found : goal.returns-clause-found
returns-clause-found c = record_found

pub returns-clause-only : goal.returns-clause-only
returns-clause-only c = λ items f. let most = f.most in (ap is_ok (record_again items f.each (omega arith)), items_read items f.each (omega arith))
