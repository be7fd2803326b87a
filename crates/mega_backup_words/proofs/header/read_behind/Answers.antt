use Rattle.std.proofs.Common.{◌≡◌, subst}
use Rattle.mega_backup_words.specs.declared.stop.Stop.TheVariants.{Header}
use Rattle.mega_backup_words.specs.Stops.{IsReadStop}
use Rattle.mega_backup_words.proofs.Parts.{read_stop}
use Rattle.mega_backup_words.proofs.header.read_behind.Goals as goal

pub returns-in-Err-clause-unmarked : goal.returns-in-Err-clause-unmarked
returns-in-Err-clause-unmarked g c rule is = let headed : c.in-Err.stop ≡ Header rule = cc in absurd (subst IsReadStop headed c.in-Err.ensures.only)

pub returns-in-Err-clause-only : goal.returns-in-Err-clause-only
returns-in-Err-clause-only g c = read_stop c.in-Err.stop c.in-Err.ensures.only
