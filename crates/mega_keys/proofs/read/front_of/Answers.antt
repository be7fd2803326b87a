use Rattle.std.proofs.Common.{sym, arith}
use Rattle.std.proofs.lemmas.List.{take_all}
use Rattle.mega_keys.proofs.read.front_of.Goals as goal

pub returns-else-key-gt-LONGEST : goal.returns-else-key-gt-LONGEST
returns-else-key-gt-LONGEST c = sym (take_all 1024 c.args.key.now (omega arith))
