use Rattle.mega_tape_laws.proofs.Answered.{read_at}
use Rattle.mega_tape_laws.proofs.answers.reads_show_the_front_of_the_log.Goals as goal

pub returns : goal.returns
returns c = read_at
