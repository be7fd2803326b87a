use Rattle.std.proofs.Common.{◌-◌, ℕ, List, [], ◌∷◌, sym, ap, ◌∙◌}
use Rattle.mega_gen.specs.declared.block.Operation.{Operation}
use Rattle.mega_gen.specs.declared.page.Page.{Page}
use Rattle.mega_gen.specs.Pages.{fill}
use Rattle.mega_gen.specs.Blocks.{operations, state_after}
use Rattle.mega_gen.proofs.Filling.{fill_more, operations_more, state_more}
use Rattle.mega_gen.proofs.block.add_operations.Goals as goal

pub loop-left-preserved : goal.loop-left-preserved
loop-left-preserved c =
    let nodes = c.args.nodes in
    let left = c.loop-left.left in
    let page = c.loop-left.page in
    let made = c.in_ok-made.made in
    let behind = operations nodes (left - 1) made.down made.state in (
      ap (λ (p : Page). fill p behind) (c.in_ok-add.ensures ∙ ap (λ (line : List ℕ). fill page (line ∷ [])) c.as_str.ensures) ∙ fill_more page (made.line ∷ []) behind
          ∙ ap (λ (m : Operation). fill page (m.line ∷ operations nodes (left - 1) m.down m.state)) c.in_ok-made.ensures ∙ ap (fill page) (sym (operations_more nodes left c.loop-left.down c.loop-left.reached c.loop-left-test.true)) ∙ c.loop-left.invariant.0,
      ap (λ (m : Operation). state_after nodes (left - 1) m.down m.state) c.in_ok-made.ensures ∙ sym (state_more nodes left c.loop-left.down c.loop-left.reached c.loop-left-test.true) ∙ c.loop-left.invariant.1,
    )
