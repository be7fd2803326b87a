use Rattle.mega_transcript_reader.proofs.LineEnds.{same_tape}
use Rattle.mega_transcript_reader.proofs.laws.text_tells_tape.Goals as goal

pub returns : goal.returns
returns c = same_tape
