use Rattle.mega_serve.specs.Turns.{schema_of}
use Rattle.mega_serve.proofs.Stepped.{lines_proceeds}
use Rattle.mega_serve.proofs.receiving.only_got.Goals as goal

pub returns-in-Ok-clause-gone : goal.returns-in-Ok-clause-gone
returns-in-Ok-clause-gone g c = λ h now waiting got serving page.
    lines_proceeds g.S.Steps h c.args.node.now waiting (schema_of g.S.Steps c.args.node.now) _ _ _ _ now got serving (c.in-Ok.ensures.gone (schema_of g.S.Steps c.args.node.now) got page)
