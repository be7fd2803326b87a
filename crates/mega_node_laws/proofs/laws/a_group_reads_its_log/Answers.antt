use Rattle.mega_node_laws.proofs.Owned.{reads_agree}
use Rattle.mega_node_laws.proofs.laws.a_group_reads_its_log.Goals as goal

pub returns : goal.returns
returns c = reads_agree
