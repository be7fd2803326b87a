use Rattle.mega_two_words.proofs.Lines.{line_read}
use Rattle.mega_two_words.proofs.start.read_line.Goals as goal

pub returns-in-Ok-clause-read : goal.returns-in-Ok-clause-read
returns-in-Ok-clause-read g c = line_read _ _ c.next_line.new.line c.in-Ok.field-0 c.in-Ok.ensures.line
