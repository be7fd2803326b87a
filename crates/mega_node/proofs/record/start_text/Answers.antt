use Rattle.std.proofs.Common.{List, ℕ, ◌++◌, ap, ◌∙◌}
use Rattle.mega_promises.specs.Items.{number}
use Rattle.mega_transcript.specs.Lines.{line, lines}
use Rattle.mega_transcript.specs.declared.item.Item.TheVariants.{Start}
use Rattle.mega_node.proofs.Texts.{started_text}
use Rattle.mega_node.proofs.record.start_text.Goals as goal

pub returns : goal.returns
returns c =
    let schema = c.args.schema.now in
    let first = Start (number c.args.me) c.args.start in
    c.in_ok-put_items.ensures ∙ ap (λ (text : List ℕ). text ++ lines schema c.args.items.now) (c.in_ok-put_start.ensures ∙ ap (λ (text : List ℕ). text ++ line schema first) c.new-told.ensures) ∙ started_text schema first c.args.items.now
