use Rattle.mega_schema.proofs.FromExact.{given_by, parse_again, parse_tells}
use Rattle.mega_schema.proofs.verdict.parse.Goals as goal

pub returns-clause-tells : goal.returns-clause-tells
returns-clause-tells c = parse_tells c.args.text.now _ c.parse_exact.ensures

pub returns-clause-only : goal.returns-clause-only
returns-clause-only c = λ words spells. given_by _ _ _ c.parse_exact.ensures (parse_again c.args.text.now words spells)
