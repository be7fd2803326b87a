use Rattle.mega_rows.proofs.Changed.{read_none}
use Rattle.mega_rows.proofs.lines.read.Goals as goal

pub returns-in-None : goal.returns-in-None
returns-in-None c = read_none c.args.lines.now c.args.key.now c.args.at c.in-None.ensures.value
