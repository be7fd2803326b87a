use Rattle.std.proofs.Common.{◌≡◌, ◌+◌, ◌-◌, ◌<◌, ℕ, List, [], ◌∷◌, sym, ap, ◌∙◌, arith}
use Rattle.mega_gen.specs.declared.page.Page.{Page}
use Rattle.mega_gen.specs.Lines.{tick_line}
use Rattle.mega_gen.specs.Pages.{fill}
use Rattle.mega_gen.specs.Blocks.{ticks}
use Rattle.mega_gen.proofs.Filling.{fill_more, ticks_more}
use Rattle.mega_gen.proofs.block.add_ticks.Goals as goal

pub loop-node-preserved : goal.loop-node-preserved
loop-node-preserved c =
    let nodes = c.args.nodes in
    let now = c.args.now in
    let node = c.loop-node.node in
    let page = c.loop-node.page in
    let behind = ticks now (node + 1) (nodes + 1 - (node + 1)) in
    let some : 0 < nodes + 1 - node = omega (arith, c.loop-node-test.true) in
    let fewer : nodes + 1 - (node + 1) ≡ nodes + 1 - node - 1 = omega arith in (
      omega (arith, c.loop-node-test.true),
      ap (λ (p : Page). fill p behind) (c.in_ok-add.ensures ∙ ap (λ (line : List ℕ). fill page (line ∷ [])) (c.as_str.ensures ∙ c.in_ok-line.ensures)) ∙ fill_more page (tick_line node now ∷ []) behind
          ∙ ap (λ n. fill page (tick_line node now ∷ ticks now (node + 1) n)) fewer ∙ ap (fill page) (sym (ticks_more now node (nodes + 1 - node) some)) ∙ c.loop-node.invariant.1,
    )
