use Rattle.std.proofs.Common.{◌≡◌, ◌∙◌, ◌+◌}
use Rattle.mega_handler_entries.proofs.Handled.{entry_length}
use Rattle.mega_handler_entries.proofs.entry.entry_length.Goals as goal

pub returns : goal.returns
returns c = λ op.
    c.in_ok-all.ensures
    ∙ (λ i. c.in_ok-marked.ensures i + c.in_ok-made.ensures i)
    ∙ (λ i. 44 + c.key_length.ensures i + (c.in_ok-written.ensures i + c.in_ok-sent.ensures i))
    ∙ entry_length c.args.name.now c.args.writes.now c.args.sends.now op
