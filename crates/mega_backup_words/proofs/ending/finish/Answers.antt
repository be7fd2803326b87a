use Rattle.std.proofs.Common.{sym}
use Rattle.mega_backup_words.proofs.Endings.{all_front}
use Rattle.mega_backup_words.proofs.ending.finish.Goals as goal

pub returns-in-Ok-clause-whole : goal.returns-in-Ok-clause-whole
returns-in-Ok-clause-whole g c plain ending before ends = let done = rw c.in-Ok.is at ends in (sym done.0, done.1)

pub returns-in-Ok-clause-front : goal.returns-in-Ok-clause-front
returns-in-Ok-clause-front g c ending before ends = let done = rw c.in-Ok.is at ends in all_front before (g.O.Sink.held c.args.out.now) ending.text done.1
