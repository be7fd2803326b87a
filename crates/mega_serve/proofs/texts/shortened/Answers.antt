use Rattle.mega_serve.proofs.Words.{taken_short}
use Rattle.mega_serve.proofs.texts.shortened.Goals as goal

pub returns-clause-short : goal.returns-clause-short
returns-clause-short c = taken_short 65000 c.args.text _ c.truncate.ensures
