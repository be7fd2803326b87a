use Rattle.mega_replica.proofs.Listing.{scan_stored}
use Rattle.mega_replica.proofs.laws.scans_list_what_is_stored.Goals as goal

pub returns : goal.returns
returns c = scan_stored
