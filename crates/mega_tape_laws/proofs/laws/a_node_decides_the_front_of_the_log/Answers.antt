use Rattle.mega_tape_laws.proofs.Complete.{known_is_front}
use Rattle.mega_tape_laws.proofs.laws.a_node_decides_the_front_of_the_log.Goals as goal

pub returns : goal.returns
returns c = known_is_front
