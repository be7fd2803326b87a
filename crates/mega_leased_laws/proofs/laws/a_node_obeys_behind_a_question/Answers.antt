use Rattle.mega_leased_laws.proofs.Obeying.{run_obeyed}
use Rattle.mega_leased_laws.proofs.laws.a_node_obeys_behind_a_question.Goals as goal

pub returns : goal.returns
returns c = run_obeyed
