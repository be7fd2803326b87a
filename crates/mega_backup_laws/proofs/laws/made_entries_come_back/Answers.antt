use Rattle.mega_backup_laws.proofs.Agreeing.{made_back, read_back}
use Rattle.mega_backup_laws.proofs.laws.made_entries_come_back.Goals as goal

pub returns-clause-restored : goal.returns-clause-restored
returns-clause-restored c = made_back

pub returns-clause-read : goal.returns-clause-read
returns-clause-read c = read_back
