use Rattle.std.proofs.Common.{◌-◌, [], ◌∷◌, ap, ◌∙◌, None}
use Rattle.mega_gen.specs.declared.page.Page.{Page}
use Rattle.mega_gen.specs.Lines.{drain_line}
use Rattle.mega_gen.specs.Pages.{fill}
use Rattle.mega_gen.specs.Blocks.{operations}
use Rattle.mega_gen.proofs.Filling.{block_fills}
use Rattle.mega_gen.proofs.block.add_block.Goals as goal

pub returns-clause-lines : goal.returns-clause-lines
returns-clause-lines c =
    let lines = operations c.args.nodes (19 - c.args.nodes) None c.args.state in
    c.in_ok-add.ensures ∙ ap (λ (p : Page). fill p (drain_line ∷ [])) (c.in_ok-after.ensures.lines ∙ ap (λ (p : Page). fill p lines) c.in_ok-add_ticks.ensures) ∙ block_fills c.args.page.now c.args.nodes c.args.now c.args.state
