use Rattle.mega_shown_laws.proofs.OneTape.{text_tells}
use Rattle.mega_shown_laws.proofs.laws.the_text_tells_the_tape.Goals as goal

pub returns : goal.returns
returns c = text_tells
