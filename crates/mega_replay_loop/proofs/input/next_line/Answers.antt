use Rattle.mega_header.proofs.Inputs.{line_follows, last_follows}
use Rattle.mega_replay_loop.proofs.Inputs.{too_long}
use Rattle.mega_replay_loop.proofs.input.next_line.Goals as goal

pub returns-in-Ok-Feed-clause-line : goal.returns-in-Ok-Feed-clause-line
returns-in-Ok-Feed-clause-line g c is = line_follows _ _ _ 65536 (rw c.in-Ok-Feed.field-0-is at c.in-Ok-Feed.ensures.line)

pub returns-in-Ok-Input-clause-line : goal.returns-in-Ok-Input-clause-line
returns-in-Ok-Input-clause-line g c is = last_follows _ _ _ 65536 (rw c.in-Ok-Input.field-0-is at c.in-Ok-Input.ensures.line) (c.last_line.ensures.line cc)

pub returns-in-Ok-Long-clause-long : goal.returns-in-Ok-Long-clause-long
returns-in-Ok-Long-clause-long g c is = too_long _ _ _ (rw c.in-Ok-Long.field-0-is at c.in-Ok-Long.ensures.line)
