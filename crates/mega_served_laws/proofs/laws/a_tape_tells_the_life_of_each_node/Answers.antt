use Rattle.mega_served_laws.proofs.Lived.{run_lives}
use Rattle.mega_served_laws.proofs.laws.a_tape_tells_the_life_of_each_node.Goals as goal

pub returns : goal.returns
returns c = run_lives
