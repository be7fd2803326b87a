use Rattle.mega_clean_laws.proofs.Showing.{newest_shows, read_shows, scan_shows}
use Rattle.mega_clean_laws.proofs.laws.cleaning_changes_no_answer.Goals as goal

pub returns-clause-reads : goal.returns-clause-reads
returns-clause-reads c = read_shows

pub returns-clause-scans : goal.returns-clause-scans
returns-clause-scans c = scan_shows

pub returns-clause-newest : goal.returns-clause-newest
returns-clause-newest c = newest_shows
