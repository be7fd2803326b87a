use Rattle.mega_syntax.proofs.FromExact.{yields_by, read_again, text_tells}
use Rattle.mega_syntax.proofs.whole.read.Goals as goal

pub returns-clause-tells : goal.returns-clause-tells
returns-clause-tells c = text_tells c.args.text.now _ c.read_exact.ensures

pub returns-clause-only : goal.returns-clause-only
returns-clause-only c = λ words spells. yields_by _ _ _ c.read_exact.ensures (read_again c.args.text.now words spells)
