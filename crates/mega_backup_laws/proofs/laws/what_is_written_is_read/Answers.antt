use Rattle.mega_backup_laws.proofs.ReadBack.{lines_are_text, lines_within, lines_back}
use Rattle.mega_backup_laws.proofs.laws.what_is_written_is_read.Goals as goal

pub returns-clause-text : goal.returns-clause-text
returns-clause-text c = lines_are_text

pub returns-clause-parted : goal.returns-clause-parted
returns-clause-parted c = lines_within

pub returns-clause-read : goal.returns-clause-read
returns-clause-read c = lines_back
