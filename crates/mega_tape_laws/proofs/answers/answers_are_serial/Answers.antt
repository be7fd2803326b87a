use Rattle.mega_tape_laws.proofs.Answered.{serial}
use Rattle.mega_tape_laws.proofs.answers.answers_are_serial.Goals as goal

pub returns : goal.returns
returns c = serial
