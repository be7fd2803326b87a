use Rattle.mega_member_laws.proofs.Headers.{cells_few}
use Rattle.mega_member_laws.proofs.laws.clusters_have_their_cells.Goals as goal

pub returns : goal.returns
returns c = cells_few
