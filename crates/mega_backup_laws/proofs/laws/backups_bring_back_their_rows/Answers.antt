use Rattle.mega_backup_laws.proofs.Agreeing.{brought_back}
use Rattle.mega_backup_laws.proofs.laws.backups_bring_back_their_rows.Goals as goal

pub returns : goal.returns
returns c = brought_back
