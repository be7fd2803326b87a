use Rattle.mega_replica.proofs.Listing.{scan_is}
use Rattle.mega_replica.proofs.laws.scans_list_the_log.Goals as goal

pub returns : goal.returns
returns c = scan_is
