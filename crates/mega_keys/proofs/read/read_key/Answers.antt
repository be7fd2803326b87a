use Rattle.std.proofs.Common.{arith}
use Rattle.mega_keys.proofs.Given.{found_by, given_by}
use Rattle.mega_keys.proofs.Keys.{read_found, read_only}
use Rattle.mega_keys.proofs.read.read_key.Goals as goal

pub returns-clause-found : goal.returns-clause-found
returns-clause-found c = found_by _ _ _ c.read_front.ensures (λ values h. read_found c.args.shape.now c.args.key.now values (λ i. omega (arith, c.type_inv.key i)) h)

pub returns-clause-only : goal.returns-clause-only
returns-clause-only c = λ values is. given_by _ _ _ c.read_front.ensures (read_only c.args.shape.now c.args.key.now values is)
